-- What two ranges are to each other (manual 9.19, table of range operators).
use Rattle.std.specs.Prelude.{ℤ, Bool, false, ◌&&◌, ◌||◌, not, Option, Some, None}
use Rattle.std.specs.Ordering.{int_eq, is_ge, is_le}
use Rattle.xp_value.specs.Order.{lower_order, upper_order}
use Rattle.xp_value.specs.declared.value.Range.{Range}
use Rattle.xp_range.specs.Bounds.{is_empty, is_under, lower_of, upper_of}

-- the first bound is as far out as the second, or further
abbrev pub reaches_down : Option ℤ → Option ℤ → Bool
reaches_down x y = is_le (lower_order x y)

abbrev pub reaches_up : Option ℤ → Option ℤ → Bool
reaches_up x y = is_ge (upper_order x y)

-- "Does the first range contain the second?" The empty range is in every range.
abbrev pub contains : Range → Range → Bool
contains a b = is_empty b || (not (is_empty a) && reaches_down (lower_of a) (lower_of b) && reaches_up (upper_of a) (upper_of b))

-- every operator below is false where one of the ranges is empty
abbrev pub neither_is_empty : Range → Range → Bool
neither_is_empty a b = not (is_empty a) && not (is_empty b)

-- "Do the ranges overlap, that is, have any elements in common?"
abbrev pub overlaps : Range → Range → Bool
overlaps a b = neither_is_empty a b && is_under (lower_of a) (upper_of b) && is_under (lower_of b) (upper_of a)

-- "Is the first range strictly left of the second?"
abbrev pub before : Range → Range → Bool
before a b = neither_is_empty a b && not (is_under (lower_of b) (upper_of a))

-- "Does the first range not extend to the right of the second?"
abbrev pub not_right : Range → Range → Bool
not_right a b = neither_is_empty a b && reaches_up (upper_of b) (upper_of a)

-- "Does the first range not extend to the left of the second?"
abbrev pub not_left : Range → Range → Bool
not_left a b = neither_is_empty a b && reaches_down (lower_of b) (lower_of a)

-- the upper bound is finite, and it is the lower one
abbrev pub meets : Option ℤ → Option ℤ → Bool
meets None lower = false
meets (Some upper) None = false
meets (Some upper) (Some lower) = int_eq upper lower

-- "Are the ranges adjacent?"
abbrev pub adjacent : Range → Range → Bool
adjacent a b = neither_is_empty a b && (meets (upper_of a) (lower_of b) || meets (upper_of b) (lower_of a))
