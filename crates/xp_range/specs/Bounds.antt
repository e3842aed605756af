-- The points of ranges, and their bounds (manual 8.17.1 to 8.17.4).
use Rattle.std.specs.Prelude.{◌≡◌, ℤ, int_le, int_lt, Bool, true, false, ◌&&◌, not, cond, Option, Some, None}
use Rattle.std.specs.Int.{int_max, int_min}
use Rattle.xp_value.specs.declared.value.Range.{Range}
use Rattle.xp_value.specs.declared.value.Range.TheVariants.{Empty, Bounds}
use Rattle.xp_value.specs.declared.value.RangeKind.{RangeKind}

-- the point isn't below the lower bound; where that is infinite, none is
abbrev pub is_from : Option ℤ → ℤ → Bool
is_from None p = true
is_from (Some lower) p = int_le lower p

-- the point is below the upper bound; where that is infinite, each is
abbrev pub is_until : Option ℤ → ℤ → Bool
is_until None p = true
is_until (Some upper) p = int_lt p upper

-- a point lies between the bounds
abbrev pub is_under : Option ℤ → Option ℤ → Bool
is_under None upper = true
is_under (Some lower) None = true
is_under (Some lower) (Some upper) = int_lt lower upper

-- the range between two bounds, empty where no point lies there
abbrev pub between : RangeKind → Option ℤ → Option ℤ → Range
between kind lower upper = cond (is_under lower upper) (Bounds lower upper kind) (Empty kind)

-- of two lower bounds the one further out, and the one further in; an infinite bound is out of all others
abbrev pub outer_lower : Option ℤ → Option ℤ → Option ℤ
outer_lower None y = None
outer_lower (Some x) None = None
outer_lower (Some x) (Some y) = Some (int_min x y)

abbrev pub inner_lower : Option ℤ → Option ℤ → Option ℤ
inner_lower None y = y
inner_lower (Some x) None = Some x
inner_lower (Some x) (Some y) = Some (int_max x y)

-- the same of two upper bounds
abbrev pub outer_upper : Option ℤ → Option ℤ → Option ℤ
outer_upper None y = None
outer_upper (Some x) None = None
outer_upper (Some x) (Some y) = Some (int_max x y)

abbrev pub inner_upper : Option ℤ → Option ℤ → Option ℤ
inner_upper None y = y
inner_upper (Some x) None = Some x
inner_upper (Some x) (Some y) = Some (int_min x y)

-- "Extracts the lower bound of the range (NULL if the range is empty or the lower bound is infinite)", and the upper one
abbrev pub lower_of : Range → Option ℤ
lower_of (Empty k) = None
lower_of (Bounds lower upper k) = lower

abbrev pub upper_of : Range → Option ℤ
upper_of (Empty k) = None
upper_of (Bounds lower upper k) = upper

-- "Is the range empty?"
abbrev pub is_empty : Range → Bool
is_empty (Empty k) = true
is_empty (Bounds lower upper k) = false

-- the range includes the point: its lower bound belongs to it, its upper one doesn't
abbrev pub includes : Range → ℤ → Bool
includes range p = not (is_empty range) && is_from (lower_of range) p && is_until (upper_of range) p

-- the range's points are those
abbrev pub HasPoints : Range → (ℤ → Bool) → Type 0
HasPoints range points = (p : ℤ) → includes range p ≡ points p
