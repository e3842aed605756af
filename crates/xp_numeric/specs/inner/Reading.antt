-- What the parts of a numeric's text are, with numbers that stand still at the least number of 39 digits.
use Rattle.std.specs.Prelude.{ℕ, ◌+◌, ◌*◌, ◌^◌, nat_lt, min, if◌then◌else◌, List, [], ◌∷◌, length, Option, Some, None, is_some, false}
use Rattle.std.specs.Char.{digit_value}
use Rattle.std.specs.List.{after_first, position}
use Rattle.std.specs.Option.{option_map}
use Rattle.std.specs.Str.Parse.{starts_with_minus, without_leading_sign}
use Rattle.xp_numeric.specs.declared.reading.Exponent.{Exponent}
use Rattle.xp_numeric.specs.Texts.{is_decimal, is_e}

abbrev pub digits_from : ℕ → List ℕ → Option ℕ
digits_from v [] = Some v
digits_from v (b ∷ z) = if is_decimal b then digits_from (min (v * 10 + digit_value b) (10 ^ 38)) z else None

abbrev pub number_from : List ℕ → Option ℕ
number_from ds = if nat_lt 0 (length ds) then digits_from 0 ds else None

abbrev pub exponent_from : List ℕ → Option Exponent
exponent_from z = option_map (λ n. record { is_down = starts_with_minus z; by = n }) (number_from (without_leading_sign z))

-- the exponent behind the first `e`, or up by 0
abbrev pub exponent_in : List ℕ → Option Exponent
exponent_in z = if is_some (position is_e z) then exponent_from (after_first is_e z) else Some (record { is_down = false; by = 0 })
