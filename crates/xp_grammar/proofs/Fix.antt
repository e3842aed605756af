-- Reading needs no count of calls: what it is at each level, by what it is at others.
use Rattle.std.proofs.Common.{◌≡◌, ℕ, zero, suc, ◌+◌, ◌*◌, ◌≤◌, ◌<◌, max, Bool, true, false, List, [], ◌∷◌, ◌++◌, length, length-append, Option, Some, None, Ok, Err, refl, sym, ap, ◌∙◌, if◌then◌else◌, arith}
use Rattle.xp_token.specs.declared.token.Token.{Token}
use Rattle.xp_grammar.specs.declared.kind.Kind.{Kind}
use Rattle.xp_grammar.specs.declared.kind.Class.{Class}
use Rattle.xp_grammar.specs.Kinds.{kind, has, ahead}
use Rattle.xp_grammar.specs.Table.{Level, Sym, Tok, Lev, Value, Word, Start, is_open, made, joined}
use Rattle.xp_grammar.specs.inner.Machine.{Outcome, Parser, and_then, pure, expect, Node, Edges, node, stop, edge, trie, tails, first, opens, any_opens, symbol, finish, walk, choose, used, onward, one, run, rank, parse}
use Rattle.xp_grammar.proofs.Look.{height, head_small}
use Rattle.xp_grammar.proofs.Bits.{implies, implied_false, every, every_at}
use Rattle.xp_grammar.proofs.Complete.{led_alone, choose_none}
use Rattle.xp_grammar.proofs.Sound.{Fine, Whole, Begun, run_sound}
use Rattle.xp_grammar.specs.Table.{Level as l}
use Rattle.xp_grammar.proofs.Fronts.{left, then_left, run_left, map_left, if_left, paired}

-- the height of a trie's first level
abbrev mutual
  pub tall : {A : Type 0} → Node A → ℕ
  tall (node d es) = tall_edges es

  pub tall_edges : {A : Type 0} → Edges A → ℕ
  tall_edges stop = 0
  tall_edges (edge y n es) = max (height y) (tall_edges es)

height_small : (y : Sym) → height y ≤ 15
height_small (Tok k) = omega arith
height_small (Lev l) = head_small (Lev l ∷ [])

root_tall : (l : Level) → tall (trie l) ≤ rank l
root_tall Level.Statement = omega arith
root_tall Level.Selects = omega arith
root_tall Level.Items = omega arith
root_tall Level.Item = omega arith
root_tall Level.Rows = omega arith
root_tall Level.Shown = omega arith
root_tall Level.E0 = omega arith
root_tall Level.E1 = omega arith
root_tall Level.E2 = omega arith
root_tall Level.E3 = omega arith
root_tall Level.E4 = omega arith
root_tall Level.E5 = omega arith
root_tall Level.E6 = omega arith
root_tall Level.P = omega arith
root_tall Level.E7 = omega arith
root_tall Level.E8 = omega arith
root_tall Level.E9 = omega arith
root_tall Level.E10 = omega arith
root_tall Level.E11 = omega arith
root_tall Level.E12 = omega arith
root_tall Level.Args = omega arith
root_tall Level.Arms = omega arith
root_tall Level.Full = omega arith
root_tall Level.Basic = omega arith
root_tall Level.Typename = omega arith

-- no level's trie ends at once
abbrev edges_of : {A : Type 0} → Node A → Edges A
edges_of (node d es) = es

mutual
  tall_small : {A : Type 0} (n : Node A) → tall n ≤ 15
  tall_small (node d es) = tall_edges_small es

  tall_edges_small : {A : Type 0} (es : Edges A) → tall_edges es ≤ 15
  tall_edges_small stop = omega arith
  tall_edges_small (edge y n es) = omega (arith, height_small y, tall_edges_small es)

pub and_then_same : {A B : Type 0} (o : Outcome A) (f g : A → Parser B) → ((a : A) (r : List Token) → o ≡ Ok (a, r) → f a r ≡ g a r) → and_then o f ≡ and_then o g
and_then_same (Ok p) f g h = h p.0 p.1 refl
and_then_same (Err e) f g h = refl

-- the two read the same of lists that the number is enough for, and leave no more than they were given
pub record Agree (m : ℕ) (a b : Level → Parser Value) : Type 0 where
  pub same : (l : Level) (ts : List Token) → 15 * length ts + rank l < m → a l ts ≡ b l ts
  pub less : (l : Level) (ts r : List Token) (v : Value) → a l ts ≡ Ok (v, r) → length r < length ts
  pub bound : (l : Level) (ts : List Token) → left (a l ts) ≤ length ts

module _ (m : ℕ) (a b : Level → Parser Value) (agree : Agree m a b) where
  pub expect_left : (k : Class) (ts r : List Token) (t : Token) → expect k ts ≡ Ok (t, r) → suc (length r) ≡ length ts
  expect_left k [] r t e = absurd cc
  expect_left k (t' ∷ ts) r t e = by (has k (kind t')) e
    where
      by : (c : Bool) → ◌≡◌ {A = Outcome Token} (if c then Ok (t', ts) else Err (length (t' ∷ ts))) (Ok (t, r)) → suc (length r) ≡ length (t' ∷ ts)
      by true q = ap (λ o. suc (left o)) (sym q)
      by false q = absurd cc

  symbol_takes : (y : Sym) (ts r : List Token) (v : Value) → symbol a y ts ≡ Ok (v, r) → length r < length ts
  unfolding symbol
  symbol_takes (Tok k) [] r v e = absurd cc
  symbol_takes (Tok k) (t ∷ ts) r v e = by (has k (kind t)) e
    where
      by : (c : Bool) → ◌≡◌ {A = Outcome Value} (and_then (if c then Ok (t, ts) else Err (length (t ∷ ts))) (λ t'. pure (Word t'))) (Ok (v, r)) → length r < length (t ∷ ts)
      by true q = let same : length ts ≡ length r = ap left q in omega (arith, same)
      by false q = absurd cc
  symbol_takes (Lev l) ts r v e = agree.less l ts r v e

  symbol_same : (y : Sym) (ts : List Token) → 15 * length ts + height y ≤ m → symbol a y ts ≡ symbol b y ts
  unfolding symbol
  symbol_same (Tok k) ts h = refl
  symbol_same (Lev l) ts h = agree.same l ts (omega (arith, h))

  module _ {A : Type 0} where
    if_same : (c : Bool) (x y z w : Outcome (A × List Value)) → x ≡ y → z ≡ w → (if c then x else z) ≡ (if c then y else w)
    if_same true x y z w p q = p
    if_same false x y z w p q = q

    edge_same : (y : Sym) (n : Node A) (ts : List Token) → 15 * length ts + height y ≤ m → ((r : List Token) → length r < length ts → walk a n r ≡ walk b n r)
        → and_then (symbol a y ts) (λ v r. and_then (walk a n r) (λ p. pure (paired v p))) ≡ and_then (symbol b y ts) (λ v r. and_then (walk b n r) (λ p. pure (paired v p)))
    edge_same y n ts h below =
        and_then_same (symbol a y ts) (λ v r. and_then (walk a n r) (λ p. pure (paired v p))) (λ v r. and_then (walk b n r) (λ p. pure (paired v p)))
        (λ v r e. ap (λ o. and_then o (λ p. pure (paired v p))) (below r (symbol_takes y ts r v e)))
        ∙ ap (λ o. and_then o (λ v r. and_then (walk b n r) (λ p. pure (paired v p)))) (symbol_same y ts h)

    finish_same : (d : Option A) (ts : List Token) → finish a d ts ≡ finish b d ts
    finish_same None ts = refl
    finish_same (Some x) ts = refl

    mutual
      unfolding walk

      walk_same : (n : Node A) (ts : List Token) → 15 * length ts + tall n ≤ m → walk a n ts ≡ walk b n ts
      walk_same (node d es) ts h = choose_same es d ts h

      choose_same : (es : Edges A) (d : Option A) (ts : List Token) → 15 * length ts + tall_edges es ≤ m → choose a es d ts ≡ choose b es d ts
      choose_same stop d ts h = finish_same d ts
      choose_same (edge y n es) d ts h =
          if_same (opens y (ahead ts)) _ _ _ _
          (edge_same y n ts (omega (arith, h)) (λ r less. walk_same n r (omega (arith, h, less, tall_small n))))
          (choose_same es d ts (omega (arith, h)))

  symbol_left : (y : Sym) (ts : List Token) → left (symbol a y ts) ≤ length ts
  unfolding symbol
  symbol_left (Tok k) [] = omega arith
  symbol_left (Tok k) (t ∷ ts) = by (has k (kind t))
    where
      by : (c : Bool) → left (and_then (if c then Ok (t, ts) else Err (length (t ∷ ts))) (λ t'. pure (Word t'))) ≤ length (t ∷ ts)
      by true = omega arith
      by false = omega arith
  symbol_left (Lev l) ts = agree.bound l ts

  module _ {A : Type 0} where
    finish_left : (d : Option A) (ts : List Token) → left (finish a d ts) ≤ length ts
    finish_left None ts = omega arith
    finish_left (Some x) ts = omega arith

    mutual
      unfolding walk

      walk_left : (n : Node A) (ts : List Token) → left (walk a n ts) ≤ length ts
      walk_left (node d es) ts = choose_left es d ts

      choose_left : (es : Edges A) (d : Option A) (ts : List Token) → left (choose a es d ts) ≤ length ts
      choose_left stop d ts = finish_left d ts
      choose_left (edge y n es) d ts =
          if_left (opens y (ahead ts)) _ _ (length ts)
          (then_left (symbol a y ts) (λ v r. and_then (walk a n r) (λ p. pure (paired v p))) (length ts) (symbol_left y ts)
          (λ v r. rw (map_left (walk a n r) (paired v)) (walk_left n r)))
          (choose_left es d ts)

    bound_ok : (y : Sym) (n : Node A) (ts r : List Token) (p : A × List Value) (o : Outcome Value) → symbol a y ts ≡ o
        → and_then o (λ v r'. and_then (walk a n r') (λ q. pure (paired v q))) ≡ Ok (p, r) → length r < length ts
    bound_ok y n ts r p (Ok q) e h =
        let less : length q.1 < length ts = symbol_takes y ts q.1 q.0 e in
        let more : left (and_then (walk a n q.1) (λ z. pure (paired q.0 z))) ≤ length q.1 = rw (map_left (walk a n q.1) (paired q.0)) (walk_left n q.1) in
        let same : left (and_then (walk a n q.1) (λ z. pure (paired q.0 z))) ≡ length r = ap left h in
        omega (arith, less, more, same)
    bound_ok y n ts r p (Err k) e h = absurd cc

    pub choose_takes : (es : Edges A) (ts r : List Token) (p : A × List Value) → choose a es None ts ≡ Ok (p, r) → length r < length ts
    unfolding walk
    choose_takes stop ts r p e = absurd cc
    choose_takes (edge y n es) ts r p e = by (opens y (ahead ts)) e (λ q. choose_takes es ts r p q)
      where
        by : (c : Bool) → (if c then and_then (symbol a y ts) (λ v r'. and_then (walk a n r') (λ q. pure (paired v q))) else choose a es None ts) ≡ Ok (p, r)
            → (choose a es None ts ≡ Ok (p, r) → length r < length ts) → length r < length ts
        by true q again = bound_ok y n ts r p (symbol a y ts) refl q
        by false q again = again q

  onward_same : (k : ℕ) (l : Level) (v : Value) (ts : List Token) → 15 * length ts + 15 ≤ m → onward a k l v ts ≡ onward b k l v ts
  unfolding onward
  onward_same zero l v ts h = refl
  onward_same (suc k) l v ts h = by (any_opens (tails l (is_open v)) (ahead ts)) (λ v' r h'. onward_same k l v' r h')
    where
      by : (c : Bool) → ((v' : Value) (r : List Token) → 15 * length r + 15 ≤ m → onward a k l v' r ≡ onward b k l v' r)
          → (if c then and_then (choose a (tails l (is_open v)) None ts) (λ p r. onward a k l (joined p.0 v (used ts r) p.1) r) else Ok (v, ts))
          ≡ (if c then and_then (choose b (tails l (is_open v)) None ts) (λ p r. onward b k l (joined p.0 v (used ts r) p.1) r) else Ok (v, ts))
      by false again = refl
      by true again =
          and_then_same (choose a (tails l (is_open v)) None ts) (λ p r. onward a k l (joined p.0 v (used ts r) p.1) r) (λ p r. onward b k l (joined p.0 v (used ts r) p.1) r)
          (λ p r e. again (joined p.0 v (used ts r) p.1) r (omega (arith, h, choose_takes (tails l (is_open v)) ts r p e)))
          ∙ ap (λ o. and_then o (λ p r. onward b k l (joined p.0 v (used ts r) p.1) r)) (choose_same (tails l (is_open v)) None ts (omega (arith, h, tall_edges_small (tails l (is_open v)))))

  root_takes : (l : Level) (ts r : List Token) (p : Start × List Value) → walk a (trie l) ts ≡ Ok (p, r) → length r < length ts
  unfolding walk
  root_takes Level.Statement ts r p e = choose_takes (edges_of (trie Level.Statement)) ts r p e
  root_takes Level.Selects ts r p e = choose_takes (edges_of (trie Level.Selects)) ts r p e
  root_takes Level.Items ts r p e = choose_takes (edges_of (trie Level.Items)) ts r p e
  root_takes Level.Item ts r p e = choose_takes (edges_of (trie Level.Item)) ts r p e
  root_takes Level.Rows ts r p e = choose_takes (edges_of (trie Level.Rows)) ts r p e
  root_takes Level.Shown ts r p e = choose_takes (edges_of (trie Level.Shown)) ts r p e
  root_takes Level.E0 ts r p e = choose_takes (edges_of (trie Level.E0)) ts r p e
  root_takes Level.E1 ts r p e = choose_takes (edges_of (trie Level.E1)) ts r p e
  root_takes Level.E2 ts r p e = choose_takes (edges_of (trie Level.E2)) ts r p e
  root_takes Level.E3 ts r p e = choose_takes (edges_of (trie Level.E3)) ts r p e
  root_takes Level.E4 ts r p e = choose_takes (edges_of (trie Level.E4)) ts r p e
  root_takes Level.E5 ts r p e = choose_takes (edges_of (trie Level.E5)) ts r p e
  root_takes Level.E6 ts r p e = choose_takes (edges_of (trie Level.E6)) ts r p e
  root_takes Level.P ts r p e = choose_takes (edges_of (trie Level.P)) ts r p e
  root_takes Level.E7 ts r p e = choose_takes (edges_of (trie Level.E7)) ts r p e
  root_takes Level.E8 ts r p e = choose_takes (edges_of (trie Level.E8)) ts r p e
  root_takes Level.E9 ts r p e = choose_takes (edges_of (trie Level.E9)) ts r p e
  root_takes Level.E10 ts r p e = choose_takes (edges_of (trie Level.E10)) ts r p e
  root_takes Level.E11 ts r p e = choose_takes (edges_of (trie Level.E11)) ts r p e
  root_takes Level.E12 ts r p e = choose_takes (edges_of (trie Level.E12)) ts r p e
  root_takes Level.Args ts r p e = choose_takes (edges_of (trie Level.Args)) ts r p e
  root_takes Level.Arms ts r p e = choose_takes (edges_of (trie Level.Arms)) ts r p e
  root_takes Level.Full ts r p e = choose_takes (edges_of (trie Level.Full)) ts r p e
  root_takes Level.Basic ts r p e = choose_takes (edges_of (trie Level.Basic)) ts r p e
  root_takes Level.Typename ts r p e = choose_takes (edges_of (trie Level.Typename)) ts r p e

  one_same : (l : Level) (ts : List Token) → 15 * length ts + rank l ≤ m → one a l ts ≡ one b l ts
  one_same l ts h =
      and_then_same (walk a (trie l) ts) (λ p r. onward a (suc (length r)) l (made p.0 p.1) r) (λ p r. onward b (suc (length r)) l (made p.0 p.1) r)
      (λ p r e. onward_same (suc (length r)) l (made p.0 p.1) r (omega (arith, h, root_takes l ts r p e)))
      ∙ ap (λ o. and_then o (λ p r. onward b (suc (length r)) l (made p.0 p.1) r)) (walk_same (trie l) ts (omega (arith, h, root_tall l)))

-- a level takes a token
pub run_takes : (n : ℕ) (l : Level) (ts r : List Token) (v : Value) → run n l ts ≡ Ok (v, r) → length r < length ts
run_takes n l ts r v e = by (run n l ts) e (run_sound n l ts)
  where
    by : (o : Outcome Value) → o ≡ Ok (v, r) → Fine (Whole l) (Begun l) ts o → length r < length ts
    by (Ok p) q (u, h, d) =
        let one = led_alone l u (p.0 ∷ []) d in
        let shows = one.3 in
        let len : length ts ≡ suc (length shows.1 + length p.1) = ap length h ∙ ap (λ z. length (z ++ p.1)) shows.2 ∙ ap suc (length-append shows.1 p.1) in
        let same : length p.1 ≡ length r = ap left q in
        omega (arith, len, same)
    by (Err k) q f = absurd cc

run_same : (n k : ℕ) (l : Level) (ts : List Token) → 15 * length ts + rank l < n → 15 * length ts + rank l < k → run n l ts ≡ run k l ts
unfolding run
run_same zero k l ts h g = absurd (omega (arith, h))
run_same (suc n) zero l ts h g = absurd (omega (arith, g))
run_same (suc n) (suc k) l ts h g =
    one_same (15 * length ts + rank l) (run n) (run k)
    (record { same = λ l' ts' q. run_same n k l' ts' (omega (arith, q, h)) (omega (arith, q, g)); less = λ l' ts' r v e. run_takes n l' ts' r v e; bound = λ l' ts'. run_left n l' ts' }) l ts (omega arith)

-- what is read, by what is read
pub parse_is : (l : Level) (ts : List Token) → parse l ts ≡ one parse l ts
unfolding parse run
parse_is l ts =
    one_same (15 * length ts + rank l) (run (15 * length ts + rank l)) parse
    (record { same = λ l' ts' q. run_same (15 * length ts + rank l) (suc (15 * length ts' + rank l')) l' ts' q (omega arith); less = λ l' ts' r v e. run_takes (15 * length ts + rank l) l' ts' r v e; bound = λ l' ts'. run_left (15 * length ts + rank l) l' ts' }) l ts (omega arith)

walk_stops : (n : ℕ) (l : Level) (ts : List Token) → any_opens (edges_of (trie l)) (ahead ts) ≡ false → walk (run n) (trie l) ts ≡ Err (length ts)
unfolding walk
walk_stops n Level.Statement ts h = choose_none n (edges_of (trie Level.Statement)) None ts h
walk_stops n Level.Selects ts h = choose_none n (edges_of (trie Level.Selects)) None ts h
walk_stops n Level.Items ts h = choose_none n (edges_of (trie Level.Items)) None ts h
walk_stops n Level.Item ts h = choose_none n (edges_of (trie Level.Item)) None ts h
walk_stops n Level.Rows ts h = choose_none n (edges_of (trie Level.Rows)) None ts h
walk_stops n Level.Shown ts h = choose_none n (edges_of (trie Level.Shown)) None ts h
walk_stops n Level.E0 ts h = choose_none n (edges_of (trie Level.E0)) None ts h
walk_stops n Level.E1 ts h = choose_none n (edges_of (trie Level.E1)) None ts h
walk_stops n Level.E2 ts h = choose_none n (edges_of (trie Level.E2)) None ts h
walk_stops n Level.E3 ts h = choose_none n (edges_of (trie Level.E3)) None ts h
walk_stops n Level.E4 ts h = choose_none n (edges_of (trie Level.E4)) None ts h
walk_stops n Level.E5 ts h = choose_none n (edges_of (trie Level.E5)) None ts h
walk_stops n Level.E6 ts h = choose_none n (edges_of (trie Level.E6)) None ts h
walk_stops n Level.P ts h = choose_none n (edges_of (trie Level.P)) None ts h
walk_stops n Level.E7 ts h = choose_none n (edges_of (trie Level.E7)) None ts h
walk_stops n Level.E8 ts h = choose_none n (edges_of (trie Level.E8)) None ts h
walk_stops n Level.E9 ts h = choose_none n (edges_of (trie Level.E9)) None ts h
walk_stops n Level.E10 ts h = choose_none n (edges_of (trie Level.E10)) None ts h
walk_stops n Level.E11 ts h = choose_none n (edges_of (trie Level.E11)) None ts h
walk_stops n Level.E12 ts h = choose_none n (edges_of (trie Level.E12)) None ts h
walk_stops n Level.Args ts h = choose_none n (edges_of (trie Level.Args)) None ts h
walk_stops n Level.Arms ts h = choose_none n (edges_of (trie Level.Arms)) None ts h
walk_stops n Level.Full ts h = choose_none n (edges_of (trie Level.Full)) None ts h
walk_stops n Level.Basic ts h = choose_none n (edges_of (trie Level.Basic)) None ts h
walk_stops n Level.Typename ts h = choose_none n (edges_of (trie Level.Typename)) None ts h

first_root : (l : Level) (a : Kind) → first l a ≡ false → any_opens (edges_of (trie l)) a ≡ false
unfolding first
first_root l a h = implied_false (any_opens (edges_of (trie l)) a) (first l a) (every_at (λ b. implies (any_opens (edges_of (trie l)) b) (first l b)) (roots l) a) h
  where
    roots : (m : Level) → every (λ b. implies (any_opens (edges_of (trie m)) b) (first m b)) ≡ true
    roots Level.Statement = refl
    roots Level.Selects = refl
    roots Level.Items = refl
    roots Level.Item = refl
    roots Level.Rows = refl
    roots Level.Shown = refl
    roots Level.E0 = refl
    roots Level.E1 = refl
    roots Level.E2 = refl
    roots Level.E3 = refl
    roots Level.E4 = refl
    roots Level.E5 = refl
    roots Level.E6 = refl
    roots Level.P = refl
    roots Level.E7 = refl
    roots Level.E8 = refl
    roots Level.E9 = refl
    roots Level.E10 = refl
    roots Level.E11 = refl
    roots Level.E12 = refl
    roots Level.Args = refl
    roots Level.Arms = refl
    roots Level.Full = refl
    roots Level.Basic = refl
    roots Level.Typename = refl

-- what no line of the level begins with is a fault at once
pub not_first : (l : Level) (ts : List Token) → first l (ahead ts) ≡ false → parse l ts ≡ Err (length ts)
unfolding parse run
not_first l ts h = ap (λ o. and_then o (λ p r. onward (run (15 * length ts + rank l)) (suc (length r)) l (made p.0 p.1) r)) (walk_stops (15 * length ts + rank l) l ts (first_root l (ahead ts) h))
