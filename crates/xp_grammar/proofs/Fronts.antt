-- A front is read to its end: no fault stands in it.
use Rattle.std.proofs.Common.{◌≡◌, ℕ, zero, suc, ◌+◌, ◌*◌, ◌≤◌, Bool, true, false, ◌⊎◌, inl, inr, List, [], ◌∷◌, ◌++◌, length, Option, Some, None, Ok, Err, refl, sym, ap, subst, ◌∙◌, append_assoc, append-nil, length-append, if◌then◌else◌, arith, le_trans}
use Rattle.xp_token.specs.declared.token.Token.{Token}
use Rattle.xp_grammar.specs.declared.kind.Kind.{Kind}
use Rattle.xp_grammar.specs.Kinds.{kind, has, ahead}
use Rattle.xp_grammar.specs.Table.{Level, Sym, Tok, Lev, Value, Word, Start, Tail, level, parts, on, lead, rest, turn, is_open, fits, made, joined}
use Rattle.xp_grammar.specs.Grammar.{Derives}
use Rattle.xp_grammar.proofs.Front.{Front}
use Rattle.xp_grammar.specs.inner.Machine.{Outcome, Parser, and_then, pure, expect, Node, Edges, node, stop, edge, trie, tails, opens, any_opens, symbol, finish, walk, choose, used, onward, run, rank}
use Rattle.xp_grammar.proofs.Sound.{Fine, Whole, Begun, run_sound, symbol_sound}
use Rattle.xp_grammar.proofs.Look.{inner, goes_one, clear, height, head, head_small, Path, PathE, apart, apart_edges, start_clear, start_head, clear_at, clear_rest, path_opens, apart_here, apart_below, apart_more, apart_edges_of, trie_path, tail_path, trie_apart, tails_apart, tail_clear, lead_clear, first_of_line}
use Rattle.xp_grammar.proofs.Complete.{Leads, Leads1, Shows, means, start_leads, tail_leads, led_alone, led_one, symbol_read, if_true, turned, shown, shown_more}

abbrev pub left : {A : Type 0} → Outcome A → ℕ
left (Ok p) = length p.1
left (Err e) = e

fine_left : {A : Type 0} (X : List Token → A → Type 0) (F : List Token → Type 0) (ts : List Token) (o : Outcome A) → Fine X F ts o → left o ≤ length ts
fine_left X F ts (Ok p) (u, e, x) = let len : length ts ≡ length u + length p.1 = ap length e ∙ length-append u p.1 in omega (arith, len)
fine_left X F ts (Err n) (u, r, e, q, x) = let len : length ts ≡ length u + length r = ap length e ∙ length-append u r in omega (arith, len, q)

pub run_left : (n : ℕ) (l : Level) (ts : List Token) → left (run n l ts) ≤ length ts
run_left n l ts = fine_left (Whole l) (Begun l) ts (run n l ts) (run_sound n l ts)

symbol_left : (n : ℕ) (y : Sym) (ts : List Token) → left (symbol (run n) y ts) ≤ length ts
symbol_left n y ts = fine_left (λ u v. Derives (y ∷ []) u (v ∷ [])) (λ u. Front (y ∷ []) u) ts (symbol (run n) y ts) (symbol_sound (run n) (run_sound n) y ts)

pub then_left : {A B : Type 0} (o : Outcome A) (f : A → Parser B) (b : ℕ) → left o ≤ b → ((a : A) (r : List Token) → left (f a r) ≤ length r) → left (and_then o f) ≤ b
then_left (Ok p) f b h g = le_trans (g p.0 p.1) h
then_left (Err e) f b h g = h

pub map_left : {A B : Type 0} (o : Outcome A) (f : A → B) → left (and_then o (λ a. pure (f a))) ≡ left o
map_left (Ok p) f = refl
map_left (Err e) f = refl

pub if_left : {A : Type 0} (b : Bool) (x y : Outcome A) (m : ℕ) → left x ≤ m → left y ≤ m → left (if b then x else y) ≤ m
if_left true x y m p q = p
if_left false x y m p q = q

abbrev pub paired : {A : Type 0} → Value → A × List Value → A × List Value
paired v p = (p.0, v ∷ p.1)

-- a symbol, and then what stands below its edge
abbrev follow : {A : Type 0} → ℕ → Node A → Outcome Value → Outcome (A × List Value)
follow n m o = and_then o (λ v r'. and_then (walk (run n) m r') (λ p. pure (paired v p)))

pass : {A : Type 0} (b : Bool) (x y : Outcome A) (m : ℕ) → b ≡ false → left y ≤ m → left (if b then x else y) ≤ m
pass true x y m e p = absurd cc
pass false x y m e p = p

finish_left : {A : Type 0} (n : ℕ) (d : Option A) (ts : List Token) → left (finish (run n) d ts) ≤ length ts
finish_left n None ts = omega arith
finish_left n (Some x) ts = omega arith

module _ {A : Type 0} (n : ℕ) where
  mutual
    unfolding walk

    walk_left : (m : Node A) (ts : List Token) → left (walk (run n) m ts) ≤ length ts
    walk_left (node d es) ts = choose_left es d ts

    choose_left : (es : Edges A) (d : Option A) (ts : List Token) → left (choose (run n) es d ts) ≤ length ts
    choose_left stop d ts = finish_left n d ts
    choose_left (edge y m es) d ts =
        if_left (opens y (ahead ts)) _ _ (length ts)
        (then_left (symbol (run n) y ts) (λ v r. and_then (walk (run n) m r) (λ p. pure (p.0, v ∷ p.1))) (length ts) (symbol_left n y ts)
        (λ v r. rw (map_left (walk (run n) m r) (paired v)) (walk_left m r)))
        (choose_left es d ts)

pub onward_left : (n m : ℕ) (l : Level) (v : Value) (r : List Token) → left (onward (run n) m l v r) ≤ length r
unfolding onward
onward_left n zero l v r = omega arith
onward_left n (suc m) l v r =
    if_left (any_opens (tails l (is_open v)) (ahead r)) _ _ (length r)
    (then_left (choose (run n) (tails l (is_open v)) None r) (λ p r'. onward (run n) m l (joined p.0 v (used r r') p.1) r') (length r) (choose_left n (tails l (is_open v)) None r)
    (λ p r'. onward_left n m l (joined p.0 v (used r r') p.1) r'))
    (omega arith)

-- no fault in these tokens, whatever follows
abbrev pub Reached : Level → List Token → Type 0
Reached l w = (n : ℕ) (r : List Token) → 15 * length (w ++ r) + rank l ≤ n → left (run (suc n) l (w ++ r)) ≤ length r

abbrev pub Reached1 : Sym → List Token → Type 0
Reached1 (Tok k) w = (t : Token) × (w ≡ t ∷ []) × (has k (kind t) ≡ true)
Reached1 (Lev l) w = Reached l w

-- nothing, some of the first symbol, or it whole and some of the next ones
abbrev pub Tries : List Sym → List Token → Type 0
Tries [] w = w ≡ []
Tries (y ∷ ss) w = (w ≡ []) ⊎ ((Reached1 y w × Shows y w)
    ⊎ ((a : List Token) × (w' : List Token) × (v : Value) × (w ≡ a ++ w') × Leads1 y v a × Shows y a × Reached1 y a × Tries ss w'))

opening : (y : Sym) (ss : List Sym) (w : List Token) → Tries (y ∷ ss) w → (w ≡ []) ⊎ Shows y w
opening y ss w (inl e) = inl e
opening y ss w (inr (inl (q, p))) = inr p
opening y ss w (inr (inr (a, w', v, e, led, (t, b, f, o), q, m))) = inr (t, b ++ w', e ∙ ap (λ z. z ++ w') f, o)

symbol_reached : (n : ℕ) (y : Sym) (w r : List Token) → 15 * length (w ++ r) + height y ≤ n → Reached1 y w → left (symbol (run n) y (w ++ r)) ≤ length r
unfolding symbol
symbol_reached n (Tok k) w r h (t, e, s) =
    subst (λ z. left (and_then (expect k (z ++ r)) (λ t'. pure (Word t'))) ≤ length r) (sym e)
    (subst (λ o. left (and_then o (λ t'. pure (Word t'))) ≤ length r) (sym (if_true (has k (kind t)) (Ok (t, r)) (Err (length (t ∷ r))) s)) (omega arith))
symbol_reached zero (Lev l) w r h q = absurd (omega (arith, h))
symbol_reached (suc n) (Lev l) w r h q = q n r (omega (arith, h))

shows_opens : (y : Sym) (w r : List Token) → Shows y w → opens y (ahead (w ++ r)) ≡ true
shows_opens y w r (t, w', e, o) = ap (λ z. opens y (ahead (z ++ r))) e ∙ o

open_at : (r : List Token) (y : Sym) (ss : List Sym) (w : List Token)
    → ((Reached1 y w × Shows y w) ⊎ ((a : List Token) × (w' : List Token) × (v : Value) × (w ≡ a ++ w') × Leads1 y v a × Shows y a × Reached1 y a × Tries ss w')) → opens y (ahead (w ++ r)) ≡ true
open_at r y ss w (inl (q, s)) = shows_opens y w r s
open_at r y ss w (inr (a, w', v, e, led, (t, b, f, o), q, m)) = shows_opens y w r (t, b ++ w', e ∙ ap (λ z. z ++ w') f, o)

apart_next : (y : Sym) (ss : List Sym) (w : List Token) → clear (y ∷ ss) ≡ true → Tries ss w → (w ≡ []) ⊎ ((t : Token) × (w' : List Token) × (w ≡ t ∷ w') × (goes_one y (kind t) ≡ false))
apart_next y [] w c e = inl e
apart_next y (z ∷ ss) w c m = by (opening z ss w m)
  where
    by : (w ≡ []) ⊎ Shows z w → (w ≡ []) ⊎ ((t : Token) × (w' : List Token) × (w ≡ t ∷ w') × (goes_one y (kind t) ≡ false))
    by (inl e) = inl e
    by (inr (t, w', e, o)) = inr (t, w', e, clear_at y z ss (kind t) c o)

module _ {A : Type 0} (inside : Kind → Bool) (n : ℕ) (r : List Token) where
  -- into an edge
  into : (y z : Sym) (m : Node A) (ts : List Token) (other : Outcome (A × List Value)) (b : ℕ) → z ≡ y → opens y (ahead ts) ≡ true
      → left (follow n m (symbol (run n) y ts)) ≤ b
      → left (if opens z (ahead ts) then follow n m (symbol (run n) z ts) else other) ≤ b
  into y z m ts other b e o h =
      subst (λ q. left q ≤ b) (sym (if_true (opens z (ahead ts)) _ other (ap (λ k. opens k (ahead ts)) e ∙ o)))
      (subst (λ k. left (follow n m (symbol (run n) k ts)) ≤ b) (sym e) h)

  near : (y : Sym) (m : Node A) (w : List Token) → 15 * length (w ++ r) + height y ≤ n → Reached1 y w
      → left (follow n m (symbol (run n) y (w ++ r))) ≤ length r
  near y m w h q = then_left (symbol (run n) y (w ++ r)) (λ v r'. and_then (walk (run n) m r') (λ p. pure (p.0, v ∷ p.1))) (length r) (symbol_reached n y w r h q)
      (λ v r'. rw (map_left (walk (run n) m r') (paired v)) (walk_left n m r'))

  beyond : (y : Sym) (ss : List Sym) (m : Node A) (a w : List Token) (v : Value) → 15 * length (a ++ (w ++ r)) + height y ≤ n → clear (y ∷ ss) ≡ true
      → Leads1 y v a → Reached1 y a → (w ≡ []) ⊎ ((t : Token) × (w' : List Token) × (w ≡ t ∷ w') × (goes_one y (kind t) ≡ false))
      → left (walk (run n) m (w ++ r)) ≤ length r
      → left (follow n m (symbol (run n) y (a ++ (w ++ r)))) ≤ length r
  beyond y ss m a w v h c led q (inl e) again =
      subst (λ z. left (follow n m (symbol (run n) y (a ++ (z ++ r)))) ≤ length r) (sym e)
      (near y m a (subst (λ z. 15 * length (a ++ (z ++ r)) + height y ≤ n) e h) q)
  beyond y ss m a w v h c led q (inr (t, w', e, g)) again =
      let quiet : goes_one y (ahead (w ++ r)) ≡ false = ap (λ z. goes_one y (ahead (z ++ r))) e ∙ g in
      subst (λ o. left (follow n m o) ≤ length r) (sym (symbol_read n y a (w ++ r) v h led quiet))
      (rw (map_left (walk (run n) m (w ++ r)) (paired v)) again)

  mutual
    unfolding walk

    walk_reach : (m : Node A) (ss : List Sym) (x : A) → Path m ss x → apart inside m ≡ true → (w : List Token) → Tries ss w
        → 15 * length (w ++ r) + head ss ≤ n → clear ss ≡ true → left (walk (run n) m (w ++ r)) ≤ length r
    walk_reach (node d es) [] x p c w e h k = subst (λ z. left (choose (run n) es d (z ++ r)) ≤ length r) (sym e) (choose_left n es d r)
    walk_reach (node d es) (y ∷ ss) x p c w m h k = choose_reach es d y ss x p (apart_edges_of inside d es c) w m h k

    choose_reach : (es : Edges A) (d : Option A) (y : Sym) (ss : List Sym) (x : A) → PathE es y ss x → apart_edges inside es ≡ true → (w : List Token) → Tries (y ∷ ss) w
        → 15 * length (w ++ r) + height y ≤ n → clear (y ∷ ss) ≡ true → left (choose (run n) es d (w ++ r)) ≤ length r
    choose_reach es d y ss x p c w (inl e) h k = subst (λ z. left (choose (run n) es d (z ++ r)) ≤ length r) (sym e) (choose_left n es d r)
    choose_reach stop d y ss x p c w (inr m) h k = absurd p
    choose_reach (edge z m es) d y ss x (inl (e, p)) c w (inr (inl (q, s))) h k =
        into y z m (w ++ r) (choose (run n) es d (w ++ r)) (length r) e (shows_opens y w r s) (near y m w h q)
    choose_reach (edge z m es) d y ss x (inl (e, p)) c w (inr (inr (a, w', v, f, led, (t, b, j, o), q, ms))) h k =
        let regrouped : w ++ r ≡ a ++ (w' ++ r) = ap (λ z. z ++ r) f ∙ append_assoc a w' r in
        let len : length (w ++ r) ≡ suc (length b + length (w' ++ r)) = ap length regrouped ∙ ap (λ z. length (z ++ (w' ++ r))) j ∙ ap suc (length-append b (w' ++ r)) in
        let fuel : 15 * length (a ++ (w' ++ r)) + height y ≤ n = rw (ap length (sym regrouped)) h in
        let now : opens y (ahead (w ++ r)) ≡ true = ap (λ z. opens y (ahead z)) regrouped ∙ ap (λ z. opens y (ahead (z ++ (w' ++ r)))) j ∙ o in
        into y z m (w ++ r) (choose (run n) es d (w ++ r)) (length r) e now
        (subst (λ z. left (follow n m (symbol (run n) y z)) ≤ length r) (sym regrouped)
        (beyond y ss m a w' v fuel k led q (apart_next y ss w' k ms)
        (walk_reach m ss x p (apart_below inside z m es c) w' ms (omega (arith, h, len, head_small ss)) (clear_rest y ss k))))
    choose_reach (edge z m es) d y ss x (inr p) c w (inr ms) h k =
        pass (opens z (ahead (w ++ r))) _ _ (length r) (apart_here inside z m es (ahead (w ++ r)) c (path_opens es y ss x (ahead (w ++ r)) p (open_at r y ss w ms)))
        (choose_reach es d y ss x p (apart_more inside z m es c) w (inr ms) h k)

-- ---- a line

start_reached : (x : Start) (w : List Token) → Tries (parts x) w → Reached (level x) w
unfolding run
start_reached x w m n r h =
    then_left (walk (run n) (trie (level x)) (w ++ r)) (λ p r'. onward (run n) (suc (length r')) (level x) (made p.0 p.1) r') (length r)
    (walk_reach (inner (level x)) n r (trie (level x)) (parts x) x (trie_path x) (trie_apart (level x)) w m (omega (arith, h, start_head x)) (start_clear x))
    (λ p r'. onward_left n (suc (length r')) (level x) (made p.0 p.1) r')

tail_reached : (x : Tail) (a w : List Token) (v : Value) → Leads (on x) v a → fits x v ≡ true → Reached (on x) a → Tries (turn x) w → Reached (on x) (a ++ w)
tail_reached x a w v led ok q m = by (opening (Tok (lead x)) (rest x) w m)
  where
    by : (w ≡ []) ⊎ Shows (Tok (lead x)) w → Reached (on x) (a ++ w)
    by (inl e) n r h = subst (Reached (on x)) (sym (ap (λ z. a ++ z) e ∙ append-nil a)) q n r h
    by (inr (t, w', e, s)) n r h =
        let regrouped : (a ++ w) ++ r ≡ a ++ (w ++ r) = append_assoc a w r in
        let fuel : 15 * length (a ++ (w ++ r)) + rank (on x) ≤ n = rw (ap length (sym regrouped)) h in
        let len : length (a ++ (w ++ r)) ≡ length a + length (w ++ r) = length-append a (w ++ r) in
        let first : has (lead x) (ahead (w ++ r)) ≡ true = ap (λ z. has (lead x) (ahead (z ++ r))) e ∙ s in
        let now = turned x n v a (w ++ r) led ok first fuel in
        let all = then_left (choose (run n) (tails (on x) (is_open v)) None (w ++ r)) (λ p r'. onward (run n) now.turns (on x) (joined p.0 v (used (w ++ r) r') p.1) r') (length r)
        (choose_reach (inner (on x)) n r (tails (on x) (is_open v)) None (Tok (lead x)) (rest x) x (tail_path x (is_open v) ok) (tails_apart (on x) (is_open v)) w m (omega (arith, fuel, len)) (lead_clear (lead x) (rest x) (tail_clear x)))
        (λ p r'. onward_left n now.turns (on x) (joined p.0 v (used (w ++ r) r') p.1) r') in
        subst (λ o. left o ≤ length r) (sym (ap (run (suc n) (on x)) regrouped ∙ now.same)) all

alone : (l : Level) (w : List Token) → Tries (Lev l ∷ []) w → Reached l w
alone l w (inl e) = λ n r h. subst (λ z. left (run (suc n) l (z ++ r)) ≤ length r) (sym e) (run_left (suc n) l r)
alone l w (inr (inl (q, s))) = q
alone l w (inr (inr (a, w', v, e, led, s, q, m))) = subst (Reached l) (sym (append-nil a) ∙ ap (λ z. a ++ z) (sym m) ∙ sym e) q

-- ---- what is derived, and what is a front

derived : {ss : List Sym} {u : List Token} {vs : List Value} → Derives ss u vs → Tries ss u
derived Derives.none = refl
derived (Derives.token {ts = ts} k t e d) = inr (inr (t ∷ [], ts, Word t, refl, (t, refl, refl, e), (t, [], refl, e), (t, refl, e), derived d))
derived (Derives.begins {us = us} {ts = ts} {ws = ws} x d e) =
    inr (inr (us, ts, made x ws, refl, start_leads x us ws (means d), shown x (parts x) us ws refl (means d), start_reached x us (derived d), derived e))
derived (Derives.goes_on {fs = fs} {us = us} {ts = ts} {v = v} {ws = ws} x d f g e) =
    let before = led_one (on x) fs v d in
    inr (inr (
      fs ++ us,
      ts,
      joined x v us ws,
      refl,
      tail_leads x fs us v ws before.0 f (means g),
      shown_more (Lev (on x)) fs us before.1,
      tail_reached x fs us v before.0 f (alone (on x) fs (derived d)) (derived g),
      derived e,
    ))

nothing_tried : (ss : List Sym) → Tries ss []
nothing_tried [] = refl
nothing_tried (y ∷ ss) = inl refl

-- some of a line is some of its level
one_level : (x : Start) (ss ss' : List Sym) (w : List Token) → parts x ≡ ss → Tries ss w → Reached (level x) w → Tries (Lev (level x) ∷ ss') w
one_level x [] ss' w e m q = inl m
one_level x (y ∷ ss) ss' w e m q = by (opening y ss w m)
  where
    by : (w ≡ []) ⊎ Shows y w → Tries (Lev (level x) ∷ ss') w
    by (inl h) = inl h
    by (inr (t, w', h, o)) = inr (inl (q, (t, w', h, first_of_line x y ss (kind t) e o)))

pub tried : {ss : List Sym} {w : List Token} → Front ss w → Tries ss w
tried {ss = ss} Front.nothing = nothing_tried ss
tried (Front.token {ts = ts} k t e f) = inr (inr (t ∷ [], ts, Word t, refl, (t, refl, refl, e), (t, [], refl, e), (t, refl, e), tried f))
tried (Front.begins {ss = ss} {ts = ts} x f) = one_level x (parts x) ss ts refl (tried f) (start_reached x ts (tried f))
tried (Front.goes_on {fs = fs} {ts = ts} {v = v} x d h f) =
    let before = led_one (on x) fs v d in
    inr (inl (tail_reached x fs ts v before.0 h (alone (on x) fs (derived d)) (tried f), shown_more (Lev (on x)) fs ts before.1))
tried (Front.past {us = us} {ts = ts} {vs = vs} l d f) =
    let one = led_alone l us vs d in
    inr (inr (us, ts, one.0, refl, one.2, one.3, alone l us (derived d), tried f))

-- No fault stands in a front.
pub front_reached : (l : Level) (w : List Token) → Front (Lev l ∷ []) w → (n : ℕ) (r : List Token) → 15 * length (w ++ r) + rank l ≤ n
    → left (run (suc n) l (w ++ r)) ≤ length r
front_reached l w f = alone l w (tried f)
