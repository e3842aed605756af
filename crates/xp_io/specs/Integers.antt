-- The text forms of the integer types (manual 8.1.1; whole numbers 4.1.2.6).
use Rattle.std.specs.Prelude.{ℕ, ℤ, pos, neg_ℤ, List, [], ◌∷◌, Bool, true, not, ◌==◌, ◌&&◌, ◌||◌, cond, length, drop, slice_index, Option, Some, None, option_map, Result, Ok, Err}
use Rattle.std.specs.Char.{is_digit}
use Rattle.std.specs.List.{filter}
use Rattle.std.specs.Str.Parse.{digits_value}
use Rattle.xp_base.specs.declared.codes.EvalError.{EvalError}
use Rattle.xp_base.specs.declared.codes.EvalError.TheVariants as error
use Rattle.xp_base.specs.Operators.{is_sign}
use Rattle.xp_lexer.specs.Bytes.{first}
use Rattle.xp_lexer.specs.Meaning.{base_of}
use Rattle.xp_value.specs.Representation.{has_bits}
use Rattle.xp_io.specs.Space.{trimmed}

-- every byte is a digit of the base, or an underscore with a digit behind it
abbrev pub are_digits : ℕ → List ℕ → Bool
are_digits base [] = true
are_digits base (b ∷ text) = (is_digit b base || (b == 95 && is_digit (first text) base)) && are_digits base text

-- the number that the digits write; underscores don't count
abbrev pub value_of : ℕ → List ℕ → ℕ
value_of base text = digits_value base (filter (λ b. not (b == 95)) text)

-- the number that the text writes in digits of the base, each of which may have one underscore before it
abbrev pub digits_number : ℕ → List ℕ → Option ℕ
digits_number base text = cond (are_digits base text) (Some (value_of base text)) None

-- 0 and the letter of a base stand in front
abbrev pub names_base : List ℕ → Bool
names_base text = first text == 48 && not (base_of (slice_index text 1) == 10)

-- one digit at least
abbrev pub based_number : ℕ → List ℕ → Option ℕ
based_number base text = cond (length text == 0) None (digits_number base text)

-- the first digit has no underscore before it
abbrev pub decimal_number : List ℕ → Option ℕ
decimal_number text = cond (is_digit (first text) 10) (digits_number 10 text) None

-- the whole number that the text is, as a script may have it
abbrev pub whole_number : List ℕ → Option ℕ
whole_number text = cond (names_base text) (based_number (base_of (slice_index text 1)) (drop 2 text)) (decimal_number text)

abbrev pub with_sign : Bool → ℕ → ℤ
with_sign is_minus n = cond is_minus (neg_ℤ (pos n)) (pos n)

-- without the sign in front
abbrev pub unsigned : List ℕ → List ℕ
unsigned text = cond (is_sign (first text)) (drop 1 text) text

-- a whole number behind a sign or none
abbrev pub signed_number : List ℕ → Option ℤ
signed_number text = option_map (with_sign (first text == 45)) (whole_number (unsigned text))

abbrev pub within : ℕ → Option ℤ → Result ℤ EvalError
within width None = Err error.BadText
within width (Some n) = cond (has_bits width n) (Ok n) (Err error.OutOfRange)

-- the integer of so many bits that the text is
abbrev pub input_integer : ℕ → List ℕ → Result ℤ EvalError
input_integer width text = within width (signed_number (trimmed text))
