-- The points of a range that is made of two bounds.
use Rattle.std.proofs.Common.{◌≡◌, Bool, true, false, ◌&&◌, not, refl, ap, sym, ◌∙◌, arith, ℤ, pos, ◌+ℤ◌, int_lt, int_le, cond, Option, Some, None, Result, Ok, Err}
use Rattle.std.proofs.lemmas.Int.{ints}
use Rattle.xp_base.specs.FromLeft.{and_then}
use Rattle.xp_base.specs.declared.codes.EvalError.{EvalError}
use Rattle.xp_base.specs.declared.codes.EvalError.TheVariants.{RangeData}
use Rattle.xp_value.specs.Representation.{is_bound}
use Rattle.xp_value.specs.declared.value.Range.{Range}
use Rattle.xp_value.specs.declared.value.RangeKind.{RangeKind}
use Rattle.xp_range.specs.Bounds.{HasPoints, between, includes, is_from, is_until}
use Rattle.xp_range.specs.Constructors.{canonical, is_crossed, is_past, is_short_of, lies_within, made, next, past, stepped}
use Rattle.xp_range.specs.declared.constructors.Flags.{Flags}
use Rattle.xp_range.proofs.Points.{between_points}

abbrev Bound : Type 0
Bound = Result (Option ℤ) EvalError

abbrev given : Option ℤ → Bound
given b = Ok b

given_is : (a b : Option ℤ) → given a ≡ given b → a ≡ b
given_is a b e = cc

next_from : (n p : ℤ) → int_le (n +ℤ pos 1) p ≡ int_lt n p
next_from n p = grind (arith, ints)

next_until : (n p : ℤ) → int_lt p (n +ℤ pos 1) ≡ int_le p n
next_until n p = grind (arith, ints)

next_is : (k : RangeKind) (n : ℤ) (b : Option ℤ) → next k n ≡ Ok b → b ≡ Some (n +ℤ pos 1)
next_is k n b e = by (is_bound k (n +ℤ pos 1)) e
  where
    by : (t : Bool) → cond t (given (Some (n +ℤ pos 1))) (Err (past k)) ≡ Ok b → b ≡ Some (n +ℤ pos 1)
    by true e = sym (given_is (Some (n +ℤ pos 1)) b e)
    by false e = cc

lower_points : (k : RangeKind) (inc : Bool) (lower b : Option ℤ) (p : ℤ) → stepped k (not inc) lower ≡ Ok b → is_from b p ≡ is_past inc lower p
lower_points k inc None b p e = sym (ap (λ x. is_from x p) (given_is None b e))
lower_points k true (Some n) b p e = sym (ap (λ x. is_from x p) (given_is (Some n) b e))
lower_points k false (Some n) b p e = ap (λ x. is_from x p) (next_is k n b e) ∙ next_from n p

upper_points : (k : RangeKind) (inc : Bool) (upper b : Option ℤ) (p : ℤ) → stepped k inc upper ≡ Ok b → is_until b p ≡ is_short_of inc upper p
upper_points k inc None b p e = sym (ap (λ x. is_until x p) (given_is None b e))
upper_points k false (Some n) b p e = sym (ap (λ x. is_until x p) (given_is (Some n) b e))
upper_points k true (Some n) b p e = ap (λ x. is_until x p) (next_is k n b e) ∙ next_until n p

abbrev okay : Range → Result Range EvalError
okay r = Ok r

ok_is : (r s : Range) → okay r ≡ okay s → r ≡ s
ok_is r s e = cc

canonical_points : (k : RangeKind) (flags : Flags) (lower upper : Option ℤ) (r : Range) (p : ℤ) → canonical k flags lower upper ≡ Ok r → includes r p ≡ lies_within flags lower upper p
canonical_points k flags lower upper r p e = by (stepped k (not flags.lower_inc) lower) (stepped k flags.upper_inc upper) refl refl e
  where
    by : (a b : Bound) → stepped k (not flags.lower_inc) lower ≡ a → stepped k flags.upper_inc upper ≡ b → and_then a (λ first. and_then b (λ end. okay (between k first end))) ≡ Ok r → includes r p ≡ lies_within flags lower upper p
    by (Err x) b f g h = cc
    by (Ok l) (Err x) f g h = cc
    by (Ok l) (Ok u) f g h =
        sym (ap (λ x. includes x p) (ok_is (between k l u) r h))
        ∙ between_points k l u p
        ∙ ap (λ t. t && is_until u p) (lower_points k flags.lower_inc lower l p f)
        ∙ ap (λ t. is_past flags.lower_inc lower p && t) (upper_points k flags.upper_inc upper u p g)

pub made_points : (k : RangeKind) (flags : Flags) (lower upper : Option ℤ) (r : Range) → made k flags lower upper ≡ Ok r → HasPoints r (lies_within flags lower upper)
made_points k flags lower upper r e = by (is_crossed lower upper) e
  where
    by : (t : Bool) → cond t (Err RangeData) (canonical k flags lower upper) ≡ Ok r → HasPoints r (lies_within flags lower upper)
    by true e = cc
    by false e = λ p. canonical_points k flags lower upper r p e
