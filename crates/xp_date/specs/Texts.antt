-- The text of a date, and the date that a text is (manual 8.5.1, 8.5.2).
use Rattle.std.specs.Prelude.{ℕ, ◌+◌, ◌/◌, ◌%◌, ◌==◌, ℤ, pos, Bool, ◌&&◌, if◌then◌else◌, List, [], ◌∷◌, ◌++◌, length, slice_index, Option, Some, None, Result, Err}
use Rattle.std.specs.Char.{is_digit}
use Rattle.std.specs.List.{list_all}
use Rattle.std.specs.Str.Parse.{digits_value}
use Rattle.xp_base.specs.declared.codes.EvalError.{EvalError}
use Rattle.xp_base.specs.declared.codes.EvalError.TheVariants.{BadDate}
use Rattle.xp_date.specs.Days.{day_of_month, made, month_of, year_of}

-- the last digit of a number; 48 is `0`
abbrev pub digit : ℕ → ℕ
digit n = 48 + n % 10

abbrev pub two_digits : ℕ → List ℕ
two_digits n = digit (n / 10) ∷ digit n ∷ []

abbrev pub four_digits : ℕ → List ℕ
four_digits n = digit (n / 1000) ∷ digit (n / 100) ∷ digit (n / 10) ∷ digit n ∷ []

-- the text of a day, YYYY-MM-DD; 45 is `-`
abbrev pub text : ℤ → List ℕ
text day = four_digits (year_of day) ++ 45 ∷ two_digits (month_of day) ++ 45 ∷ two_digits (day_of_month day)

-- `0` to `9`
abbrev pub is_decimal : ℕ → Bool
is_decimal c = is_digit c 10

-- the number that the bytes write, where all are digits
abbrev pub number_in : List ℕ → Option ℕ
number_in ds = if list_all is_decimal ds then Some (digits_value 10 ds) else None

-- the day of that year, month and day of the month, where the three are numbers
abbrev pub made_of : Option ℕ → Option ℕ → Option ℕ → Result ℤ EvalError
made_of (Some y) (Some m) (Some d) = made (pos y) (pos m) (pos d)
made_of _ _ _ = Err BadDate

-- the bytes have the places of YYYY-MM-DD
abbrev pub has_form : List ℕ → Bool
has_form t = length t == 10 && slice_index t 4 == 45 && slice_index t 7 == 45

-- the day that a text without white space at its ends is
abbrev pub date_in : List ℕ → Result ℤ EvalError
date_in t =
    let at = slice_index t in
    if has_form t then made_of (number_in (at 0 ∷ at 1 ∷ at 2 ∷ at 3 ∷ [])) (number_in (at 5 ∷ at 6 ∷ [])) (number_in (at 8 ∷ at 9 ∷ []))
    else Err BadDate
