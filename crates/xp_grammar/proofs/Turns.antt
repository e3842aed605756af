-- A level goes on in turns, the count of which makes no difference.
use Rattle.std.proofs.Common.{◌≡◌, ℕ, zero, suc, ◌+◌, ◌*◌, ◌≤◌, ◌<◌, Bool, true, false, List, [], ◌∷◌, length, None, Ok, Err, refl, subst, ◌∙◌, if◌then◌else◌, arith}
use Rattle.xp_token.specs.declared.token.Token.{Token}
use Rattle.xp_grammar.specs.declared.kind.Class.{Class}
use Rattle.xp_grammar.specs.Kinds.{kind, ahead, has}
use Rattle.xp_grammar.specs.Table.{Level, Value, is_open, joined}
use Rattle.xp_grammar.specs.inner.Machine.{and_then, expect, tails, any_opens, choose, used, onward, rank, parse, more}
use Rattle.xp_grammar.proofs.Complete.{if_true, if_false}
use Rattle.xp_grammar.proofs.Fronts.{left, run_left}
use Rattle.xp_grammar.proofs.Fix.{Agree, and_then_same, choose_takes, run_takes}

pub parse_left : (m : Level) (ts : List Token) → left (parse m ts) ≤ length ts
unfolding parse
parse_left m ts = run_left (suc (15 * length ts + rank m)) m ts

pub parse_takes : (m : Level) (v : Value) (ts r : List Token) → parse m ts ≡ Ok (v, r) → length r < length ts
unfolding parse
parse_takes m v ts r e = run_takes (suc (15 * length ts + rank m)) m ts r v e

pub parse_less : (m : Level) (v : Value) (ts r : List Token) → parse m ts ≡ Ok (v, r) → length r ≤ length ts
parse_less m v ts r e = subst (λ q. left q ≤ length ts) e (parse_left m ts)

pub itself : Agree 0 parse parse
itself = record { same = λ m ts h. refl; less = λ m ts r v e. parse_takes m v ts r e; bound = λ m ts. parse_left m ts }

-- the count of turns makes no difference
onward_any : (j i : ℕ) (m : Level) (v : Value) (ts : List Token) → length ts < j → length ts < i → onward parse j m v ts ≡ onward parse i m v ts
unfolding onward
onward_any zero i m v ts h g = absurd (omega (arith, h))
onward_any (suc j) zero m v ts h g = absurd (omega (arith, g))
onward_any (suc j) (suc i) m v ts h g = by (any_opens (tails m (is_open v)) (ahead ts)) (λ v' r h'. onward_any j i m v' r (omega (arith, h, h')) (omega (arith, g, h')))
  where
    by : (b : Bool) → ((v' : Value) (r : List Token) → length r < length ts → onward parse j m v' r ≡ onward parse i m v' r)
        → (if b then and_then (choose parse (tails m (is_open v)) None ts) (λ p r. onward parse j m (joined p.0 v (used ts r) p.1) r) else Ok (v, ts))
        ≡ (if b then and_then (choose parse (tails m (is_open v)) None ts) (λ p r. onward parse i m (joined p.0 v (used ts r) p.1) r) else Ok (v, ts))
    by false again = refl
    by true again = and_then_same (choose parse (tails m (is_open v)) None ts) (λ p r. onward parse j m (joined p.0 v (used ts r) p.1) r) (λ p r. onward parse i m (joined p.0 v (used ts r) p.1) r)
        (λ p r e. again (joined p.0 v (used ts r) p.1) r (choose_takes 0 parse parse itself (tails m (is_open v)) ts r p e))

pub more_ends : (m : Level) (v : Value) (ts : List Token) → any_opens (tails m (is_open v)) (ahead ts) ≡ false → more m v ts ≡ Ok (v, ts)
unfolding more onward
more_ends m v ts e = if_false (any_opens (tails m (is_open v)) (ahead ts)) _ _ e

pub more_turn : (m : Level) (v : Value) (ts : List Token) → any_opens (tails m (is_open v)) (ahead ts) ≡ true
    → more m v ts ≡ and_then (choose parse (tails m (is_open v)) None ts) (λ p r. more m (joined p.0 v (used ts r) p.1) r)
unfolding more onward
more_turn m v ts e =
    if_true (any_opens (tails m (is_open v)) (ahead ts)) _ _ e
    ∙ and_then_same (choose parse (tails m (is_open v)) None ts) (λ p r. onward parse (length ts) m (joined p.0 v (used ts r) p.1) r) (λ p r. onward parse (suc (length r)) m (joined p.0 v (used ts r) p.1) r)
    (λ p r q. onward_any (length ts) (suc (length r)) m (joined p.0 v (used ts r) p.1) r (choose_takes 0 parse parse itself (tails m (is_open v)) ts r p q) (omega arith))

pub expect_left_is : (a : Class) (ts : List Token) → left (expect a ts) ≤ length ts
expect_left_is a [] = omega arith
expect_left_is a (t ∷ ts) = by (has a (kind t))
  where
    by : (b : Bool) → left (if b then Ok (t, ts) else Err (length (t ∷ ts))) ≤ length (t ∷ ts)
    by true = omega arith
    by false = omega arith
