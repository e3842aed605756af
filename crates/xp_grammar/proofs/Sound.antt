-- What is read is derived, and what stands before a fault is a front.
use Rattle.std.proofs.Common.{◌≡◌, ℕ, zero, suc, Bool, true, false, List, [], ◌∷◌, ◌++◌, length, Option, Some, None, Ok, Err, refl, sym, ap, subst, ◌∙◌, append_assoc, append-nil, if◌then◌else◌, rules, ◌-◌, take, length-append}
use Rattle.std.proofs.lemmas.List.{append_cancel_left}
use Rattle.std.proofs.Math.Nat.{add-sub_cancel}
use Rattle.std.proofs.Math.Seq.{take-append_seam}
use Rattle.xp_token.specs.declared.token.Token.{Token}
use Rattle.xp_grammar.specs.declared.kind.Kind.{Kind}
use Rattle.xp_grammar.specs.Kinds.{kind, has, ahead}
use Rattle.xp_grammar.specs.Table.{Level, Sym, Tok, Lev, Value, Word, Start, Tail, level, parts, made, on, turn, is_open, fits, joined}
use Rattle.xp_grammar.specs.Grammar.{Derives}
use Rattle.xp_grammar.proofs.Front.{Front}
use Rattle.xp_grammar.specs.inner.Machine.{Outcome, Parser, and_then, pure, Node, Edges, node, stop, edge, trie, tails, opens, any_opens, symbol, finish, walk, choose, used, onward, one, run}

-- an outcome of reading ts: a part of ts with this value, or a front with so many tokens behind it
abbrev pub Fine : {A : Type 0} → (List Token → A → Type 0) → (List Token → Type 0) → List Token → Outcome A → Type 0
Fine X F ts (Ok p) = (u : List Token) × (ts ≡ u ++ p.1) × X u p.0
Fine X F ts (Err e) = (u : List Token) × (r : List Token) × (ts ≡ u ++ r) × (length r ≡ e) × F u

abbrev pub Whole : Level → List Token → Value → Type 0
Whole l u v = Derives (Lev l ∷ []) u (v ∷ [])

abbrev pub Begun : Level → List Token → Type 0
Begun l u = Front (Lev l ∷ []) u

-- more of the tokens came before
shifted : {A : Type 0} (X Y : List Token → A → Type 0) (F G : List Token → Type 0) (ts u r : List Token) (o : Outcome A)
    → ts ≡ u ++ r → ((w : List Token) (a : A) → X w a → Y (u ++ w) a) → ((w : List Token) → F w → G (u ++ w))
    → Fine X F r o → Fine Y G ts o
shifted X Y F G ts u r (Ok p) e whole front (w, q, x) = (u ++ w, e ∙ ap (λ z. u ++ z) q ∙ sym (append_assoc u w p.1), whole w p.0 x)
shifted X Y F G ts u r (Err n) e whole front (w, s, q, len, x) =
    (u ++ w, s, e ∙ ap (λ z. u ++ z) q ∙ sym (append_assoc u w s), len, front w x)

bound : {A B : Type 0} (X : List Token → A → Type 0) (Y : List Token → B → Type 0) (F G : List Token → Type 0) (ts : List Token) (o : Outcome A) (f : A → Parser B)
    → Fine X F ts o → ((w : List Token) → F w → G w)
    → ((a : A) (u r : List Token) → ts ≡ u ++ r → X u a → Fine Y G ts (f a r))
    → Fine Y G ts (and_then o f)
bound X Y F G ts (Ok p) f (u, e, x) front next = next p.0 u p.1 e x
bound X Y F G ts (Err n) f (u, r, e, len, x) front next = (u, r, e, len, front u x)

nil_only : {ts : List Token} {vs : List Value} → Derives [] ts vs → (ts ≡ []) × (vs ≡ [])
nil_only Derives.none = (refl, refl)

-- the symbols after one
pub and_more : {s : Sym} {ss : List Sym} {u w : List Token} {v : Value} {vs : List Value} → Derives (s ∷ []) u (v ∷ []) → Derives ss w vs → Derives (s ∷ ss) (u ++ w) (v ∷ vs)
and_more {ss = ss} {w = w} {vs = vs} (Derives.token {ts = ts} k t e d) f =
    subst (λ z. Derives (Tok k ∷ ss) (t ∷ (z ++ w)) (Word t ∷ vs)) (sym (nil_only d).0) (Derives.token k t e f)
and_more {ss = ss} {w = w} {vs = vs} (Derives.begins {us = us} {ws = ws} x d e) f =
    subst (λ z. Derives (Lev (level x) ∷ ss) (z ++ w) (made x ws ∷ vs)) (sym (append-nil us) ∙ ap (λ z. us ++ z) (sym (nil_only e).0)) (Derives.begins x d f)
and_more {ss = ss} {w = w} {vs = vs} (Derives.goes_on {fs = fs} {us = us} {v = v} {ws = ws} x d h g e) f =
    subst (λ z. Derives (Lev (on x) ∷ ss) (z ++ w) (joined x v us ws ∷ vs)) (sym (append-nil (fs ++ us)) ∙ ap (λ z. (fs ++ us) ++ z) (sym (nil_only e).0)) (Derives.goes_on x d h g f)

pub whole_start : (x : Start) (u : List Token) (vs : List Value) → Derives (parts x) u vs → Whole (level x) u (made x vs)
whole_start x u vs d = subst (λ z. Derives (Lev (level x) ∷ []) z (made x vs ∷ [])) (append-nil u) (Derives.begins x d Derives.none)

pub whole_tail : (x : Tail) (a u : List Token) (v : Value) (vs : List Value) → Whole (on x) a v → fits x v ≡ true → Derives (turn x) u vs → Whole (on x) (a ++ u) (joined x v u vs)
whole_tail x a u v vs d h g = subst (λ z. Derives (Lev (on x) ∷ []) z (joined x v u vs ∷ [])) (append-nil (a ++ u)) (Derives.goes_on x d h g Derives.none)

pub begun_by : (l : Level) (u : List Token) (v : Value) → Whole l u v → Begun l u
begun_by l u v d = subst (λ z. Front (Lev l ∷ []) z) (append-nil u) (Front.past l d Front.nothing)

nothing_only : {ts : List Token} → Front [] ts → ts ≡ []
nothing_only Front.nothing = refl

pub widen : {s : Sym} {ss : List Sym} {w : List Token} → Front (s ∷ []) w → Front (s ∷ ss) w
widen Front.nothing = Front.nothing
widen {ss = ss} (Front.token k t e f) = subst (λ z. Front (Tok k ∷ ss) (t ∷ z)) (sym (nothing_only f)) (Front.token k t e Front.nothing)
widen (Front.begins x f) = Front.begins x f
widen (Front.goes_on x d h f) = Front.goes_on x d h f
widen {ss = ss} (Front.past {us = us} l d f) =
    subst (λ z. Front (Lev l ∷ ss) (us ++ z)) (sym (nothing_only f)) (Front.past l d Front.nothing)

-- behind one whole symbol
further : {s : Sym} {ss : List Sym} {u w : List Token} {v : Value} → Derives (s ∷ []) u (v ∷ []) → Front ss w → Front (s ∷ ss) (u ++ w)
further {ss = ss} {w = w} (Derives.token k t e d) f = subst (λ z. Front (Tok k ∷ ss) (t ∷ (z ++ w))) (sym (nil_only d).0) (Front.token k t e f)
further {ss = ss} {w = w} (Derives.begins {us = us} {ws = ws} x d e) f =
    subst (λ z. Front (Lev (level x) ∷ ss) (z ++ w)) (sym (append-nil us) ∙ ap (λ z. us ++ z) (sym (nil_only e).0)) (Front.past (level x) (whole_start x us ws d) f)
further {ss = ss} {w = w} (Derives.goes_on {fs = fs} {us = us} {v = v} {ws = ws} x d h g e) f =
    subst (λ z. Front (Lev (on x) ∷ ss) (z ++ w)) (sym (append-nil (fs ++ us)) ∙ ap (λ z. (fs ++ us) ++ z) (sym (nil_only e).0)) (Front.past (on x) (whole_tail x fs us v ws d h g) f)

-- ---- the lines of a trie

abbrev pub leafy : {A : Type 0} → Node A → Bool
leafy (node (Some x) es) = true
leafy (node None stop) = false
leafy (node None (edge s n es)) = leafy n

abbrev pub RightD : {A : Type 0} → (A → List Sym → Type 0) → List Sym → Option A → Type 0
RightD Q pre None = Unit {0}
RightD Q pre (Some x) = Q x pre

-- each line ends where its symbols do, and each node has a line
abbrev mutual
  pub Right : {A : Type 0} → (A → List Sym → Type 0) → List Sym → Node A → Type 0
  Right Q pre (node d es) = RightD Q pre d × (leafy (node d es) ≡ true) × RightE Q pre es

  pub RightE : {A : Type 0} → (A → List Sym → Type 0) → List Sym → Edges A → Type 0
  RightE Q pre stop = Unit {0}
  RightE Q pre (edge s n es) = Right Q (pre ++ s ∷ []) n × RightE Q pre es

abbrev pub Live : {A : Type 0} → (A → List Sym → Type 0) → List Sym → Type 0
Live {A = A} Q pre = (x : A) × (ss : List Sym) × Q x (pre ++ ss)

live : {A : Type 0} (Q : A → List Sym → Type 0) (pre : List Sym) (n : Node A) → Right Q pre n → Live Q pre
live Q pre (node (Some x) es) (q, _, _) = (x, [], subst (Q x) (sym (append-nil pre)) q)
live Q pre (node None stop) (q, h, _) = absurd cc
live Q pre (node None (edge s n es)) (q, h, (r, _)) =
    let next = live Q (pre ++ s ∷ []) n r in (next.0, s ∷ next.1, subst (Q next.0) (append_assoc pre (s ∷ []) next.1) next.2)

abbrev pub Found : {A : Type 0} → (A → List Sym → Type 0) → List Sym → List Token → A × List Value → Type 0
Found Q pre u p = (ss : List Sym) × Q p.0 (pre ++ ss) × Derives ss u p.1

abbrev pub Open : {A : Type 0} → (A → List Sym → Type 0) → List Sym → List Token → Type 0
Open {A = A} Q pre u = (x : A) × (ss : List Sym) × Q x (pre ++ ss) × Front ss u

module _ (read : Level → Parser Value) (sound : (l : Level) (ts : List Token) → Fine (Whole l) (Begun l) ts (read l ts)) where
  pub symbol_sound : (s : Sym) (ts : List Token) → Fine (λ u v. Derives (s ∷ []) u (v ∷ [])) (λ u. Front (s ∷ []) u) ts (symbol read s ts)
  unfolding symbol
  symbol_sound (Tok k) [] = ([], [], refl, refl, Front.nothing)
  symbol_sound (Tok k) (t ∷ ts) = by (has k (kind t)) refl
    where
      by : (b : Bool) → has k (kind t) ≡ b
          → Fine (λ u v. Derives (Tok k ∷ []) u (v ∷ [])) (λ u. Front (Tok k ∷ []) u) (t ∷ ts) (and_then (if b then Ok (t, ts) else Err (length (t ∷ ts))) (λ t'. pure (Word t')))
      by true e = (t ∷ [], refl, Derives.token k t e Derives.none)
      by false e = ([], t ∷ ts, refl, refl, Front.nothing)
  symbol_sound (Lev l) ts = sound l ts

  module _ {A : Type 0} (Q : A → List Sym → Type 0) where
    finish_sound : (pre : List Sym) (d : Option A) (ts : List Token) → RightD Q pre d → Live Q pre → Fine (λ u p. Found Q pre u p) (Open Q pre) ts (finish read d ts)
    finish_sound pre None ts q (x, ss, h) = ([], ts, refl, refl, (x, ss, h, Front.nothing))
    finish_sound pre (Some x) ts q h = ([], refl, ([], subst (Q x) (sym (append-nil pre)) q, Derives.none))

    edge_sound : (pre : List Sym) (s : Sym) (n : Node A) (ts : List Token) (b : Bool) (other : Outcome (A × List Value)) → Live Q (pre ++ s ∷ [])
        → ((r : List Token) → Fine (λ u p. Found Q (pre ++ s ∷ []) u p) (Open Q (pre ++ s ∷ [])) r (walk read n r))
        → Fine (λ u p. Found Q pre u p) (Open Q pre) ts other
        → Fine (λ u p. Found Q pre u p) (Open Q pre) ts (if b then and_then (symbol read s ts) (λ v r. and_then (walk read n r) (λ p. pure (p.0, v ∷ p.1))) else other)
    edge_sound pre s n ts false other l below rest = rest
    edge_sound pre s n ts true other (x, ss, h) below rest =
        bound (λ u v. Derives (s ∷ []) u (v ∷ [])) (λ u p. Found Q pre u p) (λ u. Front (s ∷ []) u) (Open Q pre) ts (symbol read s ts) _ (symbol_sound s ts)
        (λ w f. (x, s ∷ ss, subst (Q x) (append_assoc pre (s ∷ []) ss) h, widen f))
        (λ v u r e d. shifted (λ w p. Found Q pre (u ++ w) p) (λ w p. Found Q pre w p) (λ w. Open Q pre (u ++ w)) (Open Q pre) ts u r _ e (λ w a q. q) (λ w q. q)
        (bound (λ w p. Found Q (pre ++ s ∷ []) w p) (λ w p. Found Q pre (u ++ w) p) (Open Q (pre ++ s ∷ [])) (λ w. Open Q pre (u ++ w)) r (walk read n r) _ (below r)
        (λ w (y, ys, g, f). (y, s ∷ ys, subst (Q y) (append_assoc pre (s ∷ []) ys) g, further d f))
        (λ p w r' q (ys, g, f). (w, q, (s ∷ ys, subst (Q p.0) (append_assoc pre (s ∷ []) ys) g, and_more d f)))))

    mutual
      unfolding walk

      walk_sound : (n : Node A) (pre : List Sym) → Right Q pre n → (ts : List Token) → Fine (λ u p. Found Q pre u p) (Open Q pre) ts (walk read n ts)
      walk_sound (node d es) pre (q, h, r) ts = choose_sound es d pre r q (live Q pre (node d es) (q, h, r)) ts

      choose_sound : (es : Edges A) (d : Option A) (pre : List Sym) → RightE Q pre es → RightD Q pre d → Live Q pre → (ts : List Token) → Fine (λ u p. Found Q pre u p) (Open Q pre) ts (choose read es d ts)
      choose_sound stop d pre r q l ts = finish_sound pre d ts q l
      choose_sound (edge s n es) d pre (r, rs) q l ts =
          edge_sound pre s n ts (opens s (ahead ts)) (choose read es d ts) (live Q (pre ++ s ∷ []) n r) (λ r'. walk_sound n (pre ++ s ∷ []) r r') (choose_sound es d pre rs q l ts)

-- the line's symbols, and its level
abbrev pub Begins : Level → Start → List Sym → Type 0
Begins l x ss = (parts x ≡ ss) × (level x ≡ l)

abbrev pub Turns : Level → Value → Tail → List Sym → Type 0
Turns l v x ss = (turn x ≡ ss) × (on x ≡ l) × (fits x v ≡ true)

-- what was read is what stands before the rest
pub used_is : (u r : List Token) → used (u ++ r) r ≡ u
used_is u r =
    let len : length (u ++ r) - length r ≡ length u = ap (λ z. z - length r) (length-append u r) ∙ add-sub_cancel (length u) (length r) in
    ap (λ z. take z (u ++ r)) len ∙ take-append_seam u r

trie_right : (l : Level) → Right (Begins l) [] (trie l)
trie_right Level.Statement = (tt, refl, ((tt, refl, (((refl, refl), refl, tt), tt)), ((tt, refl, ((tt, refl, ((tt, refl, (((refl, refl), refl, tt), tt)), tt)), tt)), ((tt, refl, (((refl, refl), refl, tt), tt)), ((tt, refl, ((tt, refl, (((refl, refl), refl, tt), tt)), (((refl, refl), refl, tt), tt))), (((refl, refl), refl, tt), tt))))))
trie_right Level.Selects = (tt, refl, ((tt, refl, (((refl, refl), refl, tt), tt)), tt))
trie_right Level.Items = (tt, refl, (((refl, refl), refl, tt), tt))
trie_right Level.Item = (tt, refl, (((refl, refl), refl, ((tt, refl, (((refl, refl), refl, tt), tt)), tt)), tt))
trie_right Level.Rows = (tt, refl, ((tt, refl, ((tt, refl, (((refl, refl), refl, tt), tt)), tt)), tt))
trie_right Level.Shown = (tt, refl, (((refl, refl), refl, tt), tt))
trie_right Level.E0 = (tt, refl, (((refl, refl), refl, tt), tt))
trie_right Level.E1 = (tt, refl, (((refl, refl), refl, tt), tt))
trie_right Level.E2 = (tt, refl, ((tt, refl, (((refl, refl), refl, tt), tt)), (((refl, refl), refl, tt), tt)))
trie_right Level.E3 = (tt, refl, (((refl, refl), refl, ((tt, refl, ((tt, refl, (((refl, refl), refl, tt), ((tt, refl, ((tt, refl, (((refl, refl), refl, tt), tt)), tt)), tt))), (((refl, refl), refl, tt), ((tt, refl, ((tt, refl, (((refl, refl), refl, tt), tt)), tt)), tt)))), (((refl, refl), refl, tt), (((refl, refl), refl, tt), tt)))), tt))
trie_right Level.E4 = (tt, refl, (((refl, refl), refl, ((tt, refl, (((refl, refl), refl, tt), tt)), tt)), tt))
trie_right Level.E5 = (tt, refl, (((refl, refl), refl, ((tt, refl, ((tt, refl, ((tt, refl, ((tt, refl, (((refl, refl), refl, tt), tt)), tt)), tt)), ((tt, refl, ((tt, refl, ((tt, refl, (((refl, refl), refl, tt), tt)), tt)), tt)), ((tt, refl, (((refl, refl), refl, tt), tt)), tt)))), ((tt, refl, ((tt, refl, ((tt, refl, (((refl, refl), refl, tt), tt)), tt)), tt)), ((tt, refl, ((tt, refl, ((tt, refl, (((refl, refl), refl, tt), tt)), tt)), tt)), ((tt, refl, (((refl, refl), refl, tt), tt)), tt))))), tt))
trie_right Level.E6 = (tt, refl, (((refl, refl), refl, tt), (((refl, refl), refl, tt), tt)))
trie_right Level.P = (tt, refl, ((tt, refl, (((refl, refl), refl, tt), (((refl, refl), refl, tt), tt))), tt))
trie_right Level.E7 = (tt, refl, (((refl, refl), refl, tt), tt))
trie_right Level.E8 = (tt, refl, (((refl, refl), refl, tt), tt))
trie_right Level.E9 = (tt, refl, (((refl, refl), refl, tt), tt))
trie_right Level.E10 = (tt, refl, ((tt, refl, (((refl, refl), refl, tt), tt)), (((refl, refl), refl, tt), tt)))
trie_right Level.E11 = (tt, refl, (((refl, refl), refl, tt), tt))
trie_right Level.E12 = (tt, refl, (((refl, refl), refl, tt), (((refl, refl), refl, (((refl, refl), refl, tt), ((tt, refl, (((refl, refl), refl, tt), ((tt, refl, (((refl, refl), refl, tt), tt)), tt))), tt))), ((tt, refl, ((tt, refl, (((refl, refl), refl, tt), tt)), tt)), ((tt, refl, ((tt, refl, ((tt, refl, ((tt, refl, ((tt, refl, (((refl, refl), refl, tt), tt)), tt)), tt)), tt)), tt)), ((tt, refl, ((tt, refl, ((tt, refl, ((tt, refl, (((refl, refl), refl, tt), tt)), tt)), (((refl, refl), refl, tt), tt))), ((tt, refl, ((tt, refl, ((tt, refl, ((tt, refl, (((refl, refl), refl, tt), tt)), tt)), (((refl, refl), refl, tt), tt))), tt)), tt))), ((tt, refl, ((tt, refl, ((tt, refl, (((refl, refl), refl, tt), tt)), tt)), tt)), ((tt, refl, ((tt, refl, ((tt, refl, ((tt, refl, ((tt, refl, (((refl, refl), refl, tt), tt)), tt)), tt)), tt)), tt)), ((tt, refl, ((tt, refl, (((refl, refl), refl, tt), ((tt, refl, (((refl, refl), refl, tt), tt)), tt))), tt)), ((tt, refl, ((tt, refl, ((tt, refl, ((tt, refl, ((tt, refl, (((refl, refl), refl, tt), tt)), tt)), tt)), tt)), tt)), ((tt, refl, ((tt, refl, ((tt, refl, ((tt, refl, ((tt, refl, (((refl, refl), refl, tt), tt)), tt)), ((tt, refl, ((tt, refl, ((tt, refl, ((tt, refl, (((refl, refl), refl, tt), tt)), tt)), (((refl, refl), refl, tt), tt))), tt)), ((tt, refl, ((tt, refl, (((refl, refl), refl, tt), tt)), tt)), (((refl, refl), refl, tt), tt))))), tt)), tt)), ((tt, refl, ((tt, refl, ((tt, refl, ((tt, refl, ((tt, refl, (((refl, refl), refl, tt), tt)), tt)), ((tt, refl, ((tt, refl, ((tt, refl, (((refl, refl), refl, tt), tt)), tt)), ((tt, refl, ((tt, refl, (((refl, refl), refl, tt), tt)), tt)), (((refl, refl), refl, tt), tt)))), tt))), ((tt, refl, ((tt, refl, (((refl, refl), refl, tt), tt)), tt)), ((tt, refl, ((tt, refl, ((tt, refl, (((refl, refl), refl, tt), tt)), tt)), ((tt, refl, ((tt, refl, (((refl, refl), refl, tt), tt)), tt)), (((refl, refl), refl, tt), tt)))), tt)))), tt)), ((tt, refl, ((tt, refl, ((tt, refl, ((tt, refl, ((tt, refl, (((refl, refl), refl, tt), tt)), tt)), tt)), tt)), tt)), tt)))))))))))))
trie_right Level.Args = (tt, refl, ((tt, refl, (((refl, refl), refl, tt), tt)), (((refl, refl), refl, tt), tt)))
trie_right Level.Arms = (tt, refl, ((tt, refl, ((tt, refl, ((tt, refl, (((refl, refl), refl, tt), tt)), tt)), tt)), tt))
trie_right Level.Full = (tt, refl, (((refl, refl), refl, tt), tt))
trie_right Level.Basic = (tt, refl, (((refl, refl), refl, ((tt, refl, ((tt, refl, ((tt, refl, ((tt, refl, (((refl, refl), refl, tt), tt)), tt)), (((refl, refl), refl, tt), tt))), tt)), tt)), tt))
trie_right Level.Typename = (tt, refl, (((refl, refl), refl, tt), (((refl, refl), refl, (((refl, refl), refl, tt), tt)), (((refl, refl), refl, (((refl, refl), refl, tt), tt)), (((refl, refl), refl, ((tt, refl, ((tt, refl, (((refl, refl), refl, tt), tt)), tt)), tt)), tt)))))

tails_right_of : (l : Level) (v : Value) (b : Bool) → is_open v ≡ b → RightE (Turns l v) [] (tails l b)
tails_right_of Level.Selects v b e = ((tt, refl, ((tt, refl, ((tt, refl, (((refl, refl, refl), refl, tt), tt)), tt)), tt)), tt)
tails_right_of Level.Items v b e = ((tt, refl, (((refl, refl, refl), refl, tt), tt)), tt)
tails_right_of Level.Rows v b e = ((tt, refl, ((tt, refl, ((tt, refl, (((refl, refl, refl), refl, tt), tt)), tt)), tt)), tt)
tails_right_of Level.Shown v b e = ((tt, refl, (((refl, refl, refl), refl, tt), tt)), tt)
tails_right_of Level.E0 v b e = ((tt, refl, (((refl, refl, refl), refl, tt), tt)), tt)
tails_right_of Level.E1 v b e = ((tt, refl, (((refl, refl, refl), refl, tt), tt)), tt)
tails_right_of Level.E6 v b e = ((tt, refl, (((refl, refl, refl), refl, tt), (((refl, refl, refl), refl, tt), tt))), tt)
tails_right_of Level.E7 v b e = ((tt, refl, (((refl, refl, refl), refl, tt), tt)), tt)
tails_right_of Level.E8 v b e = ((tt, refl, (((refl, refl, refl), refl, tt), tt)), tt)
tails_right_of Level.E9 v b e = ((tt, refl, (((refl, refl, refl), refl, tt), tt)), tt)
tails_right_of Level.E11 v true e = search (rules, e)
tails_right_of Level.E11 v false e = search rules
tails_right_of Level.Args v true e = search (rules, e)
tails_right_of Level.Args v false e = search rules
tails_right_of Level.Arms v b e = ((tt, refl, ((tt, refl, ((tt, refl, (((refl, refl, refl), refl, tt), tt)), tt)), tt)), tt)
tails_right_of Level.Full v b e = ((tt, refl, ((tt, refl, (((refl, refl, refl), refl, tt), tt)), (((refl, refl, refl), refl, tt), tt))), tt)
tails_right_of _ v b e = tt

tails_right : (l : Level) (v : Value) → RightE (Turns l v) [] (tails l (is_open v))
tails_right l v = tails_right_of l v (is_open v) refl

live_open : {A : Type 0} (Q : A → List Sym → Type 0) (pre : List Sym) (es : Edges A) (a : Kind) → RightE Q pre es → any_opens es a ≡ true → Live Q pre
live_open Q pre stop a r h = absurd cc
live_open Q pre (edge s n es) a (r, rs) h =
    let next = live Q (pre ++ s ∷ []) n r in (next.0, s ∷ next.1, subst (Q next.0) (append_assoc pre (s ∷ []) next.1) next.2)

module _ (read : Level → Parser Value) (sound : (l : Level) (ts : List Token) → Fine (Whole l) (Begun l) ts (read l ts)) where
  goes_sound : (n : ℕ) (l : Level) (v : Value) (u ts : List Token) (b : Bool) → any_opens (tails l (is_open v)) (ahead ts) ≡ b → Whole l u v
      → ((v' : Value) (u' r : List Token) → Whole l u' v' → Fine (Whole l) (Begun l) (u' ++ r) (onward read n l v' r))
      → Fine (Whole l) (Begun l) (u ++ ts)
      (if b then and_then (choose read (tails l (is_open v)) None ts) (λ p r. onward read n l (joined p.0 v (used ts r) p.1) r) else Ok (v, ts))
  goes_sound n l v u ts false e d again = (u, refl, d)
  goes_sound n l v u ts true e d again =
      bound (λ w p. (w' : List Token) × (w ≡ u ++ w') × Found (Turns l v) [] w' p) (Whole l) (Begun l) (Begun l) (u ++ ts)
      (choose read (tails l (is_open v)) None ts) (λ p r. onward read n l (joined p.0 v (used ts r) p.1) r)
      (shifted (λ w p. Found (Turns l v) [] w p) (λ w p. (w' : List Token) × (w ≡ u ++ w') × Found (Turns l v) [] w' p)
      (Open (Turns l v) []) (Begun l) (u ++ ts) u ts _ refl (λ w p q. (w, refl, q))
      (λ w (x, ss, (q, same, h), f). let g : Front (turn x) w = subst (λ z. Front z w) (sym q) f in
      subst (λ m. Begun m (u ++ w)) same (Front.goes_on x (here x same) h g))
      (choose_sound read sound (Turns l v) (tails l (is_open v)) None [] (tails_right l v) tt (live_open (Turns l v) [] (tails l (is_open v)) (ahead ts) (tails_right l v) e) ts))
      (λ w f. f)
      (λ p w r q (w', h, (ss, (g, same, y), f)).
      let x : Tail = p.0 in
      let k : Derives (turn x) w' p.1 = subst (λ z. Derives z w' p.1) (sym g) f in
      let cut : ts ≡ w' ++ r = append_cancel_left u ts (w' ++ r) (q ∙ ap (λ z. z ++ r) h ∙ append_assoc u w' r) in
      let all : used ts r ≡ w' = ap (λ z. used z r) cut ∙ used_is w' r in
      let more : Whole (on x) w (joined x v (used ts r) p.1) =
      subst (λ z. Whole (on x) w (joined x v z p.1)) (sym all) (subst (λ z. Whole (on x) z (joined x v w' p.1)) (sym h) (whole_tail x u w' v p.1 (here x same) y k)) in
      subst (λ z. Fine (Whole l) (Begun l) z (onward read n l (joined x v (used ts r) p.1) r)) (sym q)
      (again (joined x v (used ts r) p.1) w r (subst (λ m. Whole m w (joined x v (used ts r) p.1)) same more)))
    where
      here : (x : Tail) → on x ≡ l → Derives (Lev (on x) ∷ []) u (v ∷ [])
      here x same = subst (λ m. Derives (Lev m ∷ []) u (v ∷ [])) (sym same) d

  onward_sound : (n : ℕ) (l : Level) (v : Value) (u ts : List Token) → Whole l u v → Fine (Whole l) (Begun l) (u ++ ts) (onward read n l v ts)
  unfolding onward
  onward_sound zero l v u ts d = (u, ts, refl, refl, begun_by l u v d)
  onward_sound (suc n) l v u ts d = goes_sound n l v u ts (any_opens (tails l (is_open v)) (ahead ts)) refl d (λ v' u' r. onward_sound n l v' u' r)

  one_sound : (l : Level) (ts : List Token) → Fine (Whole l) (Begun l) ts (one read l ts)
  one_sound l ts =
      bound (λ u p. Found (Begins l) [] u p) (Whole l) (Open (Begins l) []) (Begun l) ts (walk read (trie l) ts) (λ p r. onward read (suc (length r)) l (made p.0 p.1) r)
      (walk_sound read sound (Begins l) (trie l) [] (trie_right l) ts)
      (λ w (x, ss, (q, same), f). subst (λ m. Begun m w) same (Front.begins x (subst (λ z. Front z w) (sym q) f)))
      (λ p u r e (ss, (q, same), f).
      let x : Start = p.0 in
      let d : Derives (parts x) u p.1 = subst (λ z. Derives z u p.1) (sym q) f in
      subst (λ z. Fine (Whole l) (Begun l) z (onward read (suc (length r)) l (made x p.1) r)) (sym e)
      (onward_sound (suc (length r)) l (made x p.1) u r (subst (λ m. Whole m u (made x p.1)) same (whole_start x u p.1 d))))

pub run_sound : (n : ℕ) (l : Level) (ts : List Token) → Fine (Whole l) (Begun l) ts (run n l ts)
unfolding run
run_sound zero l ts = ([], ts, refl, refl, Front.nothing)
run_sound (suc n) l ts = one_sound (run n) (λ m r. run_sound n m r) l ts
