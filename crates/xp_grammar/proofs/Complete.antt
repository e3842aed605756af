-- What is derived is read.
use Rattle.std.proofs.Common.{◌≡◌, ℕ, zero, suc, ◌+◌, ◌*◌, ◌≤◌, ◌<◌, Bool, true, false, inl, inr, List, [], ◌∷◌, ◌++◌, length, Option, None, Ok, refl, sym, ap, subst, ◌∙◌, append_assoc, append-nil, length-append, if◌then◌else◌, arith}
use Rattle.std.proofs.lemmas.Bool.{or_parts}
use Rattle.xp_token.specs.declared.token.Token.{Token}
use Rattle.xp_grammar.specs.declared.kind.Kind.{Kind}
use Rattle.xp_grammar.specs.Kinds.{kind, has, ahead}
use Rattle.xp_grammar.specs.Table.{Level, Sym, Tok, Lev, Value, Word, Start, Tail, level, parts, on, lead, rest, turn, is_open, fits, made, joined}
use Rattle.xp_grammar.specs.Grammar.{Derives}
use Rattle.xp_grammar.specs.inner.Machine.{Outcome, and_then, pure, expect, Node, Edges, node, stop, edge, trie, tails, opens, any_opens, symbol, finish, walk, choose, used, onward, one, run, rank}
use Rattle.xp_grammar.proofs.Look.{inner, goes, goes_one, goes_all, clear, height, head, head_small, Path, PathE, apart, apart_edges, start_quiet, start_clear, start_head, clear_at, clear_rest, goes_inner, goes_tail, path_opens, apart_here, apart_below, apart_more, apart_edges_of, done_quiet, trie_path, tail_path, trie_apart, tails_apart, tail_quiet, tail_clear, tail_lead, tail_opens, lead_clear, lead_goes, first_of_line, some_part}
use Rattle.xp_grammar.proofs.Sound.{used_is}

abbrev pub Leads : Level → Value → List Token → Type 0
Leads l v u = (n : ℕ) (r : List Token) → 15 * length (u ++ r) + rank l ≤ n → inner l (ahead r) ≡ false
    → (m : ℕ) × (length r < m) × (run (suc n) l (u ++ r) ≡ onward (run n) m l v r)

abbrev pub Leads1 : Sym → Value → List Token → Type 0
Leads1 (Tok k) v u = (t : Token) × (u ≡ t ∷ []) × (v ≡ Word t) × (has k (kind t) ≡ true)
Leads1 (Lev l) v u = Leads l v u

-- the first token is one by which the symbol begins
abbrev pub Shows : Sym → List Token → Type 0
Shows y u = (t : Token) × (w : List Token) × (u ≡ t ∷ w) × (opens y (kind t) ≡ true)

abbrev pub Means : List Sym → List Token → List Value → Type 0
Means [] u vs = (u ≡ []) × (vs ≡ [])
Means (y ∷ ss) u vs = (a : List Token) × (w : List Token) × (v : Value) × (ws : List Value) × (u ≡ a ++ w) × (vs ≡ v ∷ ws) × Leads1 y v a × Shows y a × Means ss w ws

pub if_true : {X : Type 0} (b : Bool) (x y : X) → b ≡ true → (if b then x else y) ≡ x
if_true true x y e = refl
if_true false x y e = absurd cc

pub if_false : {X : Type 0} (b : Bool) (x y : X) → b ≡ false → (if b then x else y) ≡ y
if_false true x y e = absurd cc
if_false false x y e = refl

-- going on where nothing goes on
pub ended : (n m : ℕ) (l : Level) (v : Value) (r : List Token) → length r < m → goes l (ahead r) ≡ false → onward (run n) m l v r ≡ Ok (v, r)
unfolding onward
ended n zero l v r h q = absurd (omega (arith, h))
ended n (suc m) l v r h q = if_false (any_opens (tails l (is_open v)) (ahead r)) _ _ (goes_tail l (is_open v) (ahead r) q)

-- what comes next doesn't go on with the symbol
still : (y : Sym) (ss : List Sym) (w r : List Token) (ws : List Value) → clear (y ∷ ss) ≡ true → goes_all (y ∷ ss) (ahead r) ≡ false → Means ss w ws → goes_one y (ahead (w ++ r)) ≡ false
still y [] w r ws c g (e, q) = subst (λ z. goes_one y (ahead (z ++ r)) ≡ false) (sym e) g
still y (z ∷ ss) w r ws c g (a, w', v, ws', e, q, led, (t, w'', h, s), m) =
    let same : ahead (w ++ r) ≡ kind t = ap (λ x. ahead (x ++ r)) (e ∙ ap (λ x. x ++ w') h) in
    ap (goes_one y) same ∙ clear_at y z ss (kind t) c s

pub symbol_read : (n : ℕ) (y : Sym) (a r : List Token) (v : Value) → 15 * length (a ++ r) + height y ≤ n → Leads1 y v a → goes_one y (ahead r) ≡ false
    → symbol (run n) y (a ++ r) ≡ Ok (v, r)
unfolding symbol
symbol_read n (Tok k) a r v h (t, e, q, s) g =
    ap (λ z. and_then (expect k (z ++ r)) (λ t'. pure (Word t'))) e ∙ ap (λ o. and_then o (λ t'. pure (Word t'))) (if_true (has k (kind t)) (Ok (t, r)) _ s) ∙ ap (λ z. Ok (z, r)) (sym q)
symbol_read zero (Lev l) a r v h led g = absurd (omega (arith, h))
symbol_read (suc n) (Lev l) a r v h led g =
    let one = led n r (omega (arith, h)) (goes_inner l (ahead r) g) in one.2 ∙ ended n one.0 l v r one.1 g

pub choose_none : {A : Type 0} (n : ℕ) (es : Edges A) (d : Option A) (ts : List Token) → any_opens es (ahead ts) ≡ false → choose (run n) es d ts ≡ finish (run n) d ts
unfolding walk
choose_none n stop d ts h = refl
choose_none n (edge y m es) d ts h = let p = or_parts (opens y (ahead ts)) (any_opens es (ahead ts)) h in
    if_false (opens y (ahead ts)) _ _ p.0 ∙ choose_none n es d ts p.1

goes_rest : (y : Sym) (ss : List Sym) (a : Kind) → goes_all (y ∷ ss) a ≡ false → goes_all ss a ≡ false
goes_rest y [] a g = refl
goes_rest y (z ∷ ss) a g = g

module _ {A : Type 0} (inside : Kind → Bool) (n : ℕ) (r : List Token) (quiet : inside (ahead r) ≡ false) where
  edge_read : (y z : Sym) (m : Node A) (ss : List Sym) (x : A) (a w u : List Token) (v : Value) (ws vs : List Value) (other : Outcome (A × List Value))
      → z ≡ y → u ≡ a ++ w → vs ≡ v ∷ ws → opens y (ahead (u ++ r)) ≡ true → symbol (run n) y (a ++ (w ++ r)) ≡ Ok (v, w ++ r)
      → walk (run n) m (w ++ r) ≡ Ok ((x, ws), r)
      → (if opens z (ahead (u ++ r)) then and_then (symbol (run n) z (u ++ r)) (λ v' r'. and_then (walk (run n) m r') (λ p. pure (p.0, v' ∷ p.1))) else other) ≡ Ok ((x, vs), r)
  edge_read y z m ss x a w u v ws vs other e q p o one rest =
      if_true (opens z (ahead (u ++ r))) _ other (ap (λ k. opens k (ahead (u ++ r))) e ∙ o)
      ∙ ap (λ k. and_then (symbol (run n) k (u ++ r)) (λ v' r'. and_then (walk (run n) m r') (λ p. pure (p.0, v' ∷ p.1)))) e
      ∙ ap (λ k. and_then (symbol (run n) y k) (λ v' r'. and_then (walk (run n) m r') (λ p. pure (p.0, v' ∷ p.1)))) (ap (λ k. k ++ r) q ∙ append_assoc a w r)
      ∙ ap (λ k. and_then k (λ v' r'. and_then (walk (run n) m r') (λ p. pure (p.0, v' ∷ p.1)))) one
      ∙ ap (λ k. and_then k (λ p. pure (p.0, v ∷ p.1))) rest
      ∙ ap (λ k. Ok ((x, k), r)) (sym p)

  mutual
    unfolding walk

    walk_reads : (m : Node A) (ss : List Sym) (x : A) → Path m ss x → apart inside m ≡ true → (u : List Token) (vs : List Value) → Means ss u vs
        → 15 * length (u ++ r) + head ss ≤ n → clear ss ≡ true → goes_all ss (ahead r) ≡ false → walk (run n) m (u ++ r) ≡ Ok ((x, vs), r)
    walk_reads (node d es) [] x p c u vs (e, q) h k g =
        ap (λ z. choose (run n) es d (z ++ r)) e ∙ choose_none n es d r (done_quiet inside d x es (ahead r) c p quiet) ∙ ap (λ z. finish (run n) z r) p ∙ ap (λ z. Ok ((x, z), r)) (sym q)
    walk_reads (node d es) (y ∷ ss) x p c u vs m h k g = choose_reads es d y ss x p (apart_edges_of inside d es c) u vs m h k g

    choose_reads : (es : Edges A) (d : Option A) (y : Sym) (ss : List Sym) (x : A) → PathE es y ss x → apart_edges inside es ≡ true → (u : List Token) (vs : List Value) → Means (y ∷ ss) u vs
        → 15 * length (u ++ r) + height y ≤ n → clear (y ∷ ss) ≡ true → goes_all (y ∷ ss) (ahead r) ≡ false → choose (run n) es d (u ++ r) ≡ Ok ((x, vs), r)
    choose_reads stop d y ss x p c u vs m h k g = absurd p
    choose_reads (edge z m es) d y ss x (inl (e, p)) c u vs (a, w, v, ws, q, f, led, (t, w', j, o), ms) h k g =
        let regrouped : u ++ r ≡ a ++ (w ++ r) = ap (λ z. z ++ r) q ∙ append_assoc a w r in
        let len : length (u ++ r) ≡ suc (length w' + length (w ++ r)) = ap length regrouped ∙ ap (λ z. length (z ++ (w ++ r))) j ∙ ap suc (length-append w' (w ++ r)) in
        let fuel : 15 * length (a ++ (w ++ r)) + height y ≤ n = rw (ap length (sym regrouped)) h in
        let now : opens y (ahead (u ++ r)) ≡ true = ap (λ z. opens y (ahead z)) regrouped ∙ ap (λ z. opens y (ahead (z ++ (w ++ r)))) j ∙ o in
        edge_read y z m ss x a w u v ws vs (choose (run n) es d (u ++ r)) e q f now (symbol_read n y a (w ++ r) v fuel led (still y ss w r ws k g ms))
        (walk_reads m ss x p (apart_below inside z m es c) w ws ms (omega (arith, h, len, head_small ss)) (clear_rest y ss k) (goes_rest y ss (ahead r) g))
    choose_reads (edge z m es) d y ss x (inr p) c u vs (a, w, v, ws, q, f, led, (t, w', j, o), ms) h k g =
        let now : opens y (ahead (u ++ r)) ≡ true = ap (λ z. opens y (ahead (z ++ r))) (q ∙ ap (λ z. z ++ w) j) ∙ o in
        if_false (opens z (ahead (u ++ r))) _ _ (apart_here inside z m es (ahead (u ++ r)) c (path_opens es y ss x (ahead (u ++ r)) p now))
        ∙ choose_reads es d y ss x p (apart_more inside z m es c) u vs (a, w, v, ws, q, f, led, (t, w', j, o), ms) h k g

-- ---- a line

pub start_leads : (x : Start) (u : List Token) (vs : List Value) → Means (parts x) u vs → Leads (level x) (made x vs) u
unfolding run
start_leads x u vs m n r h q =
    let fuel : 15 * length (u ++ r) + head (parts x) ≤ n = omega (arith, h, start_head x) in
    let all : walk (run n) (trie (level x)) (u ++ r) ≡ Ok ((x, vs), r) =
    walk_reads (inner (level x)) n r q (trie (level x)) (parts x) x (trie_path x) (trie_apart (level x)) u vs m fuel (start_clear x) (start_quiet x (ahead r) q) in
    (suc (length r), omega arith, ap (λ o. and_then o (λ p r'. onward (run n) (suc (length r')) (level x) (made p.0 p.1) r')) all)

pub one_less : (a m : ℕ) → a < m → (k : ℕ) × (m ≡ suc k) × (a ≤ k)
one_less a zero h = absurd (omega (arith, h))
one_less a (suc k) h = (k, refl, omega (arith, h))

-- after a whole level, where one of its lines goes on
pub record Turned (x : Tail) (n : ℕ) (v : Value) (ts r : List Token) : Type 0 where
  pub turns : ℕ
  pub enough : length r ≤ turns
  pub same : run (suc n) (on x) ts
      ≡ and_then (choose (run n) (tails (on x) (is_open v)) None r) (λ p r'. onward (run n) turns (on x) (joined p.0 v (used r r') p.1) r')

pub turned : (x : Tail) (n : ℕ) (v : Value) (a : List Token) (r : List Token) → Leads (on x) v a → fits x v ≡ true → has (lead x) (ahead r) ≡ true
    → 15 * length (a ++ r) + rank (on x) ≤ n → Turned x n v (a ++ r) r
unfolding onward
turned x n v a r led f e h =
    let one = led n r h (tail_lead x (ahead r) e) in
    let less = one_less (length r) one.0 one.1 in
    record {
      turns = less.0;
      enough = less.2;
      same = one.2 ∙ ap (λ k. onward (run n) k (on x) v r) less.1 ∙ opened less.0 (tail_opens x (is_open v) (ahead r) f e);
    }
  where
    opened : (k : ℕ) → any_opens (tails (on x) (is_open v)) (ahead r) ≡ true
        → onward (run n) (suc k) (on x) v r ≡ and_then (choose (run n) (tails (on x) (is_open v)) None r) (λ p r'. onward (run n) k (on x) (joined p.0 v (used r r') p.1) r')
    opened k o = if_true (any_opens (tails (on x) (is_open v)) (ahead r)) _ _ o

pub tail_leads : (x : Tail) (a w : List Token) (v : Value) (ws : List Value) → Leads (on x) v a → fits x v ≡ true → Means (turn x) w ws → Leads (on x) (joined x v w ws) (a ++ w)
tail_leads x a w v ws led ok (b, w', y, ws', e', q', (t, f, j, s), p', m) n r h g =
    let regrouped : (a ++ w) ++ r ≡ a ++ (w ++ r) = append_assoc a w r in
    let len : length ((a ++ w) ++ r) ≡ length a + length (w ++ r) = ap length regrouped ∙ length-append a (w ++ r) in
    let inside : w ≡ t ∷ w' = e' ∙ ap (λ z. z ++ w') f in
    let len' : length (w ++ r) ≡ suc (length w' + length r) = ap (λ z. length (z ++ r)) inside ∙ ap suc (length-append w' r) in
    let enough : 15 * length (a ++ (w ++ r)) + rank (on x) ≤ n = rw (ap length (sym regrouped)) h in
    let first : has (lead x) (ahead (w ++ r)) ≡ true = ap (λ z. has (lead x) (ahead (z ++ r))) inside ∙ s in
    let now = turned x n v a (w ++ r) led ok first enough in
    let all : choose (run n) (tails (on x) (is_open v)) None (w ++ r) ≡ Ok ((x, ws), r) =
    choose_reads (inner (on x)) n r g (tails (on x) (is_open v)) None (Tok (lead x)) (rest x) x (tail_path x (is_open v) ok) (tails_apart (on x) (is_open v)) w ws
    (b, w', y, ws', e', q', (t, f, j, s), p', m) (omega (arith, h, len)) (lead_clear (lead x) (rest x) (tail_clear x)) (lead_goes (lead x) (rest x) (ahead r) (tail_quiet x (ahead r) g)) in (
      now.turns,
      omega (arith, now.enough, len'),
      ap (run (suc n) (on x)) regrouped ∙ now.same
          ∙ ap (λ o. and_then o (λ p r'. onward (run n) now.turns (on x) (joined p.0 v (used (w ++ r) r') p.1) r')) all
          ∙ ap (λ z. onward (run n) now.turns (on x) (joined x v z ws) r) (used_is w r),
    )

-- a line's tokens show the level's
pub shown : (x : Start) (ss : List Sym) (u : List Token) (vs : List Value) → parts x ≡ ss → Means ss u vs → Shows (Lev (level x)) u
shown x [] u vs e m = absurd (some_part x e)
shown x (y ∷ ss) u vs e (a, w, v, ws, q, f, led, (t, w', j, o), ms) = (t, w' ++ w, q ∙ ap (λ z. z ++ w) j, first_of_line x y ss (kind t) e o)

pub shown_more : (y : Sym) (a w : List Token) → Shows y a → Shows y (a ++ w)
shown_more y a w (t, w', j, o) = (t, w' ++ w, ap (λ z. z ++ w) j, o)

alone : (l : Level) (u : List Token) (vs : List Value) → Means (Lev l ∷ []) u vs → (v : Value) × (vs ≡ v ∷ []) × Leads l v u × Shows (Lev l) u
alone l u vs (a, w, v, ws, e, q, led, p, (e', q')) =
    let same : a ≡ u = sym (append-nil a) ∙ ap (λ z. a ++ z) (sym e') ∙ sym e in
    (v, q ∙ ap (λ z. v ∷ z) q', subst (Leads l v) same led, subst (Shows (Lev l)) same p)

pub same_head : {A : Type 0} (x y : A) (xs ys : List A) → x ∷ xs ≡ y ∷ ys → x ≡ y
same_head x y xs ys e = grind arith

alone_at : (l : Level) (u : List Token) (v : Value) → Means (Lev l ∷ []) u (v ∷ []) → Leads l v u × Shows (Lev l) u
alone_at l u v m =
    let one = alone l u (v ∷ []) m in
    (subst (λ z. Leads l z u) (sym (same_head v one.0 [] [] one.1)) one.2, one.3)

pub means : {ss : List Sym} {u : List Token} {vs : List Value} → Derives ss u vs → Means ss u vs
means Derives.none = (refl, refl)
means (Derives.token {ts = ts} {vs = vs} k t e d) = (t ∷ [], ts, Word t, vs, refl, refl, (t, refl, refl, e), (t, [], refl, e), means d)
means (Derives.begins {us = us} {ts = ts} {ws = ws} {vs = vs} x d e) =
    (us, ts, made x ws, vs, refl, refl, start_leads x us ws (means d), shown x (parts x) us ws refl (means d), means e)
means (Derives.goes_on {fs = fs} {us = us} {ts = ts} {v = v} {ws = ws} {vs = vs} x d f g e) =
    let before = alone_at (on x) fs v (means d) in
    (fs ++ us, ts, joined x v us ws, vs, refl, refl, tail_leads x fs us v ws before.0 f (means g), shown_more (Lev (on x)) fs us before.1, means e)

pub led_alone : (l : Level) (u : List Token) (vs : List Value) → Derives (Lev l ∷ []) u vs → (v : Value) × (vs ≡ v ∷ []) × Leads l v u × Shows (Lev l) u
led_alone l u vs d = alone l u vs (means d)

pub led_one : (l : Level) (u : List Token) (v : Value) → Derives (Lev l ∷ []) u (v ∷ []) → Leads l v u × Shows (Lev l) u
led_one l u v d = alone_at l u v (means d)

-- What a level derives is read so, where nothing goes on with it.
pub run_complete : (l : Level) (u : List Token) (v : Value) → Derives (Lev l ∷ []) u (v ∷ []) → (n : ℕ) (r : List Token)
    → 15 * length (u ++ r) + rank l ≤ n → goes l (ahead r) ≡ false → run (suc n) l (u ++ r) ≡ Ok (v, r)
run_complete l u v d n r h g =
    let led = (led_one l u v d).0 in
    let now = led n r h (goes_inner l (ahead r) g) in
    now.2 ∙ ended n now.0 l v r now.1 g
