-- The text of a numeric, and the numeric that a text is (manual 4.1.2.6, 8.1.2).
use Rattle.std.specs.Prelude.{ℕ, suc, ◌+◌, zero, ◌*◌, ◌/◌, ◌%◌, ◌^◌, ◌==◌, nat_lt, ℤ, pos, negsuc, ◌-ℤ◌, Bool, not, ◌&&◌, ◌||◌, if◌then◌else◌, List, [], ◌∷◌, ◌++◌, length, is_some, Result, Err}
use Rattle.std.specs.Char.{is_digit}
use Rattle.std.specs.Fmt.{decimal}
use Rattle.std.specs.List.{after_first, before_first, list_all, position}
use Rattle.std.specs.Str.Parse.{digits_value, signed_digits_value, starts_with_minus, without_leading_sign}
use Rattle.xp_base.specs.declared.codes.EvalError.{EvalError}
use Rattle.xp_base.specs.declared.codes.EvalError.TheVariants.{BadText}
use Rattle.xp_base.specs.declared.decimal.Dec.{Dec}
use Rattle.xp_numeric.specs.Numbers.{made, signed}

-- the last k decimal digits of n; 48 is `0`
abbrev pub last_digits : ℕ → ℕ → List ℕ
last_digits zero n = []
last_digits (suc k) n = (48 + n / 10 ^ k % 10) ∷ last_digits k n

-- the text with exactly so many decimals as the scale says; 45 is `-` and 46 is `.`
abbrev pub text : Dec → List ℕ
text x = (if x.neg then 45 ∷ [] else []) ++ decimal (x.coef / 10 ^ x.scale) ++ (if x.scale == 0 then [] else 46 ∷ last_digits x.scale x.coef)

-- `e` or `E`
abbrev pub is_e : ℕ → Bool
is_e c = c == 101 || c == 69

abbrev pub is_point : ℕ → Bool
is_point c = c == 46

-- Of what stands behind the sign:

-- what stands before the first `e`, and what stands behind it
abbrev pub mantissa : List ℕ → List ℕ
mantissa z = before_first is_e z

abbrev pub exponent : List ℕ → List ℕ
exponent z = after_first is_e z

abbrev pub has_e : List ℕ → Bool
has_e z = is_some (position is_e z)

-- what stands behind the first point of the mantissa
abbrev pub decimals : List ℕ → List ℕ
decimals z = after_first is_point (mantissa z)

-- the mantissa without its first point
abbrev pub digits : List ℕ → List ℕ
digits z = before_first is_point (mantissa z) ++ decimals z

-- `0` to `9`
abbrev pub is_decimal : ℕ → Bool
is_decimal c = is_digit c 10

-- one digit or more, and nothing else
abbrev pub are_digits : List ℕ → Bool
are_digits ds = nat_lt 0 (length ds) && list_all is_decimal ds

-- digits with an optional point, and where there is an `e`, an optional sign and digits behind it
abbrev pub is_unsigned : List ℕ → Bool
is_unsigned z = are_digits (digits z) && (not (has_e z) || are_digits (without_leading_sign (exponent z)))

-- the number that digits write, with so many decimals; below 0, with so many zeros behind the digits
abbrev pub with_point : (negative : Bool) (size : ℕ) (decimals : ℤ) → Result Dec EvalError
with_point negative size (pos s) = made (signed negative size) s
with_point negative size (negsuc z) = made (signed negative (size * 10 ^ suc z)) 0

-- the decimals are the digits behind the point, less the exponent
abbrev pub unsigned : (negative : Bool) → List ℕ → Result Dec EvalError
unsigned negative z =
    if is_unsigned z then with_point negative (digits_value 10 (digits z)) (pos (length (decimals z)) -ℤ signed_digits_value 10 (exponent z))
    else Err BadText

-- what a text without white space at its ends is: a number with an optional sign
abbrev pub numeral : List ℕ → Result Dec EvalError
numeral t = unsigned (starts_with_minus t) (without_leading_sign t)
