-- Ranges made of two ranges (manual 9.19, tables of range operators and range functions).
use Rattle.std.specs.Prelude.{ℤ, ◌||◌, cond, Option, Some, None, Result, Ok, Err}
use Rattle.xp_base.specs.declared.codes.EvalError.{EvalError}
use Rattle.xp_base.specs.declared.codes.EvalError.TheVariants.{RangeData}
use Rattle.xp_value.specs.declared.value.Range.{Range}
use Rattle.xp_value.specs.declared.value.Range.TheVariants.{Empty, Bounds}
use Rattle.xp_range.specs.Bounds.{between, inner_lower, inner_upper, outer_lower, outer_upper}
use Rattle.xp_range.specs.Relations.{adjacent, overlaps}

-- "Computes the smallest range that includes both of the given ranges."
abbrev pub merged : Range → Range → Range
merged (Empty k) b = b
merged (Bounds lower upper k) (Empty k') = Bounds lower upper k
merged (Bounds lower upper k) (Bounds lower' upper' k') = Bounds (outer_lower lower lower') (outer_upper upper upper') k

-- "Computes the union of the ranges. The ranges must overlap or be adjacent, so that the union is a single range"
abbrev pub union : Range → Range → Result Range EvalError
union (Empty k) b = Ok b
union (Bounds lower upper k) (Empty k') = Ok (Bounds lower upper k)
union (Bounds lower upper k) (Bounds lower' upper' k') =
    let a = Bounds lower upper k in
    let b = Bounds lower' upper' k' in
    cond (overlaps a b || adjacent a b) (Ok (merged a b)) (Err RangeData)

-- "Computes the intersection of the ranges."
abbrev pub intersection : Range → Range → Range
intersection (Empty k) b = Empty k
intersection (Bounds lower upper k) (Empty k') = Empty k
intersection (Bounds lower upper k) (Bounds lower' upper' k') = between k (inner_lower lower lower') (inner_upper upper upper')

-- what of a range lies below a bound, and what doesn't; nothing lies below an infinite lower bound, or past an infinite upper one
abbrev pub below : Range → Option ℤ → Range
below (Empty k) bound = Empty k
below (Bounds lower upper k) None = Empty k
below (Bounds lower upper k) (Some bound) = between k lower (inner_upper upper (Some bound))

abbrev pub behind : Range → Option ℤ → Range
behind (Empty k) bound = Empty k
behind (Bounds lower upper k) None = Empty k
behind (Bounds lower upper k) (Some bound) = between k (inner_lower lower (Some bound)) upper

-- the one of two parts that isn't empty
abbrev pub single : Range → Range → Result Range EvalError
single (Empty k) b = Ok b
single (Bounds lower upper k) (Empty k') = Ok (Bounds lower upper k)
single (Bounds lower upper k) (Bounds lower' upper' k') = Err RangeData

-- "Computes the difference of the ranges. The second range must not be contained in the first in such a way that the difference would not be a single range."
abbrev pub difference : Range → Range → Result Range EvalError
difference a (Empty k') = Ok a
difference a (Bounds lower' upper' k') = single (below a lower') (behind a upper')
