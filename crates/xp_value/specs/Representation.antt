-- Which values a type has, by their representation (manual 8.1, 8.3, 8.4, 8.5, 8.6, 8.15, 8.17).
use Rattle.std.specs.Prelude.{ℕ, ◌+◌, ◌-◌, ◌^◌, ℤ, pos, negsuc, int_le, int_lt, nat_le, nat_lt, Bool, true, false, ◌&&◌, length, Option, Some, None}
use Rattle.xp_base.specs.declared.limits.TheConstants.{VALUE_LIMIT, ELEMENT_LIMIT}
use Rattle.xp_value.specs.declared.value.TheConstants.{FIRST_DAY, LAST_DAY}
use Rattle.xp_value.specs.declared.value.Range.{Range}
use Rattle.xp_value.specs.declared.value.Range.TheVariants.{Empty, Bounds}
use Rattle.xp_value.specs.declared.value.RangeKind.{RangeKind}
use Rattle.xp_value.specs.declared.value.RangeKind.TheVariants as subtype
use Rattle.xp_value.specs.declared.value.Rep.{Rep}
use Rattle.xp_value.specs.declared.value.Rep.TheVariants as rep
use Rattle.xp_value.specs.declared.value.Value.{Value, Arr', Row_of-Value, end_of-Value, more_of-Value}
use Rattle.xp_value.specs.declared.value.Value.TheVariants as value

-- how a type keeps its values: by one representation, or as arrays of what another type keeps
pub data Shape : Type 0 where
  plain : Rep → Shape
  array_of : Shape → Shape

-- the representation of the type
abbrev pub outer : Shape → Rep
outer (plain r) = r
outer (array_of s) = rep.Arr

-- the representation of an array type's elements
abbrev pub inner : Shape → Rep
inner (plain r) = rep.Opaque
inner (array_of s) = outer s

-- a signed number of that many bits: n, or as `negsuc n` the number -(n + 1)
abbrev pub has_bits : ℕ → ℤ → Bool
has_bits width (pos n) = nat_lt n (2 ^ (width - 1))
has_bits width (negsuc n) = nat_lt n (2 ^ (width - 1))

-- the day is in one of the years 1 to 9999
abbrev pub is_date : ℤ → Bool
is_date day = int_le FIRST_DAY day && int_le day LAST_DAY

-- the bound is of the range's subtype
abbrev pub is_bound : RangeKind → ℤ → Bool
is_bound subtype.Int4 n = has_bits 32 n
is_bound subtype.Int8 n = has_bits 64 n
is_bound subtype.Day n = is_date n

abbrev pub are_bounds : RangeKind → Option ℤ → Option ℤ → Bool
are_bounds kind None None = true
are_bounds kind (Some lower) None = is_bound kind lower
are_bounds kind None (Some upper) = is_bound kind upper
are_bounds kind (Some lower) (Some upper) = is_bound kind lower && is_bound kind upper && int_lt lower upper

abbrev pub is_range : RangeKind → Range → Bool
is_range subtype.Int4 (Empty subtype.Int4) = true
is_range subtype.Int8 (Empty subtype.Int8) = true
is_range subtype.Day (Empty subtype.Day) = true
is_range subtype.Int4 (Bounds lower upper subtype.Int4) = are_bounds subtype.Int4 lower upper
is_range subtype.Int8 (Bounds lower upper subtype.Int8) = are_bounds subtype.Int8 lower upper
is_range subtype.Day (Bounds lower upper subtype.Day) = are_bounds subtype.Day lower upper
is_range kind range = false

-- the value, whatever its size, is null or of the representation
abbrev mutual
  pub has : Shape → Value → Bool
  has s value.Null = true
  has (plain rep.Bool) (value.Bool b) = true
  has (plain rep.Int2) (value.Int n) = has_bits 16 n
  has (plain rep.Int4) (value.Int n) = has_bits 32 n
  has (plain rep.Int8) (value.Int n) = has_bits 64 n
  has (plain rep.Num) (value.Num d) = true
  has (plain rep.Text) (value.Text t) = true
  has (plain rep.Pad) (value.Pad t) = true
  has (plain rep.Bytes) (value.Bytes b) = true
  has (plain rep.Day) (value.Day n) = is_date n
  has (array_of s) (Arr' shape elements) = each_has s elements
  has (plain rep.Int4Range) (value.Rng r) = is_range subtype.Int4 r
  has (plain rep.Int8Range) (value.Rng r) = is_range subtype.Int8 r
  has (plain rep.DateRange) (value.Rng r) = is_range subtype.Day r
  has (plain rep.Opaque) (value.Opaque t) = true
  has s v = false

  pub each_has : Shape → {m : _} → Row_of-Value m → Bool
  each_has s end_of-Value = true
  each_has s (more_of-Value v rest) = has s v && each_has s rest

-- the bytes of a value, of an array those of its elements together
abbrev mutual
  pub byte_count : Value → ℕ
  byte_count (value.Text t) = length t
  byte_count (value.Pad t) = length t
  byte_count (value.Bytes b) = length b
  byte_count (value.Opaque t) = length t
  byte_count (Arr' shape elements) = element_bytes elements
  byte_count v = 0

  pub element_bytes : {m : _} → Row_of-Value m → ℕ
  element_bytes end_of-Value = 0
  element_bytes (more_of-Value v rest) = byte_count v + element_bytes rest

abbrev pub element_count : {m : _} → Row_of-Value m → ℕ
element_count end_of-Value = 0
element_count (more_of-Value v rest) = 1 + element_count rest

-- no array in the value has too many elements
abbrev mutual
  pub is_short : Value → Bool
  is_short (Arr' shape elements) = nat_le (element_count elements) ELEMENT_LIMIT && are_short elements
  is_short v = true

  pub are_short : {m : _} → Row_of-Value m → Bool
  are_short end_of-Value = true
  are_short (more_of-Value v rest) = is_short v && are_short rest

-- the value keeps the limits on values
abbrev pub is_within_limits : Value → Bool
is_within_limits v = nat_le (byte_count v) VALUE_LIMIT && is_short v

-- the value is null, or of the representation
abbrev pub is_of : Shape → Value → Bool
is_of s v = has s v && is_within_limits v
