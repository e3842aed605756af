-- The texts of numerics and days have printed characters of ASCII alone.
use Rattle.std.proofs.Common.{◌≡◌, ℕ, zero, suc, ◌+◌, ◌/◌, ◌%◌, ◌^◌, ◌<◌, ◌≤◌, ℤ, List, [], ◌∷◌, ◌++◌, Bool, true, false, ◌==◌, cond, eqb, refl, ap, ◌∙◌, arith, mod-lt}
use Rattle.std.specs.Fmt.{decimal}
use Rattle.std.specs.Str.{IsAscii, IsUtf8}
use Rattle.std.specs.Str.Parse.{AllDigits}
use Rattle.std.proofs.Math.Nat.{div-le_self}
use Rattle.std.proofs.lemmas.Bool.{ne_eqb}
use Rattle.std.proofs.lemmas.Fmt.{decimal_is_IsNumeral_wide}
use Rattle.std.proofs.lemmas.Str.{IsUtf8-from_ascii}
use Rattle.xp_base.specs.declared.decimal.Dec.{Dec}
use Rattle.xp_value.specs.Representation.{is_date}
use Rattle.xp_numeric.specs.Texts.{last_digits, text as numeric_text}
use Rattle.xp_date.specs.Days.{day_of_month, month_of, year_of}
use Rattle.xp_date.specs.Texts.{digit, four_digits, two_digits, text as date_text}
use Rattle.xp_io.specs.Forms.{has_zero_byte, output_day}
use Rattle.xp_io.specs.Space.{trimmed, trimmed_end}
use Rattle.xp_io.proofs.Decimals.{ends, in_range, no_space}

-- neither white space nor a byte below it
abbrev pub AllPrinted : List ℕ → Type 0
AllPrinted [] = Unit {0}
AllPrinted (c ∷ text) = ((33 ≤ c) × (c < 128)) × AllPrinted text

both : (xs ys : List ℕ) → AllPrinted xs → AllPrinted ys → AllPrinted (xs ++ ys)
both [] ys h k = k
both (x ∷ xs) ys h k = (h.0, both xs ys h.1 k)

of_digits : (ds : List ℕ) → AllDigits 10 ds → AllPrinted ds
of_digits [] all = tt
of_digits (c ∷ ds) all = let r = in_range c all.0 in ((omega (arith, r), omega (arith, r)), of_digits ds all.1)

ascii : (text : List ℕ) → AllPrinted text → IsAscii text
ascii [] all i = omega arith
ascii (c ∷ text) all zero = all.0.1
ascii (c ∷ text) all (suc i) = ascii text all.1 i

pub printed_utf8 : (text : List ℕ) → AllPrinted text → IsUtf8 text
printed_utf8 text all = IsUtf8-from_ascii text (ascii text all)

pub no_zero : (text : List ℕ) → AllPrinted text → has_zero_byte text ≡ false
no_zero [] all = refl
no_zero (c ∷ text) all = let other : (c == 0) ≡ false = ne_eqb c 0 (λ e. omega (arith, all.0.0)) in rw other (no_zero text all.1)

ends_printed : (text : List ℕ) → AllPrinted text → trimmed_end text ≡ text
ends_printed [] all = refl
ends_printed (c ∷ text) all = ends c text all.0.0 (ends_printed text all.1)

pub trims_printed : (text : List ℕ) → AllPrinted text → trimmed text ≡ text
trims_printed [] all = refl
trims_printed (c ∷ text) all = rw (no_space c all.0.0) (ends_printed (c ∷ text) all)

-- ---- of numerics

sign : (negative : Bool) → AllPrinted (cond negative (45 ∷ []) [])
sign true = ((omega arith, omega arith), tt)
sign false = tt

last : (k n : ℕ) → AllPrinted (last_digits k n)
last zero n = tt
last (suc k) n = let few : n / 10 ^ k % 10 < 10 = mod-lt (n / 10 ^ k) (omega arith) in ((omega arith, omega (arith, few)), last k n)

decimals : (none : Bool) (k n : ℕ) → AllPrinted (cond none [] (46 ∷ last_digits k n))
decimals true k n = tt
decimals false k n = ((omega arith, omega arith), last k n)

of_parts : (negative none : Bool) (front : List ℕ) (k n : ℕ) → AllDigits 10 front → AllPrinted ((cond negative (45 ∷ []) []) ++ front ++ cond none [] (46 ∷ last_digits k n))
of_parts negative none front k n all =
    both (cond negative (45 ∷ []) [] ++ front) (cond none [] (46 ∷ last_digits k n)) (both (cond negative (45 ∷ []) []) front (sign negative) (of_digits front all)) (decimals none k n)

pub numeric_printed : (x : Dec) → AllPrinted (numeric_text x)
numeric_printed x =
    let digits = x.digits in
    let below : x.coef / 10 ^ x.scale ≤ x.coef = div-le_self x.coef (10 ^ x.scale) in
    let whole = decimal_is_IsNumeral_wide (x.coef / 10 ^ x.scale) (omega arith) in
    of_parts x.neg (eqb x.scale 0) (decimal (x.coef / 10 ^ x.scale)) x.scale x.coef whole.0.1

pub numeric_utf8 : (x : Dec) → IsUtf8 (numeric_text x)
numeric_utf8 x = printed_utf8 (numeric_text x) (numeric_printed x)

-- ---- of days

one_digit : (n : ℕ) → (33 ≤ digit n) × (digit n < 128)
one_digit n = let few : n % 10 < 10 = mod-lt n (omega arith) in (omega arith, omega (arith, few))

two : (n : ℕ) → AllPrinted (two_digits n)
two n = (one_digit (n / 10), (one_digit n, tt))

pub date_printed : (day : ℤ) → AllPrinted (date_text day)
date_printed day =
    let year : AllPrinted (four_digits (year_of day)) = (one_digit (year_of day / 1000), (one_digit (year_of day / 100), (one_digit (year_of day / 10), (one_digit (year_of day), tt)))) in
    let place : AllPrinted (45 ∷ two_digits (day_of_month day)) = ((omega arith, omega arith), two (day_of_month day)) in
    let month : AllPrinted (two_digits (month_of day) ++ 45 ∷ two_digits (day_of_month day)) = both (two_digits (month_of day)) (45 ∷ two_digits (day_of_month day)) (two (month_of day)) place in
    both (four_digits (year_of day)) (45 ∷ two_digits (month_of day) ++ 45 ∷ two_digits (day_of_month day)) year ((omega arith, omega arith), month)

day_printed : (day : ℤ) → AllPrinted (output_day day)
day_printed day = by (is_date day)
  where
    by : (b : Bool) → AllPrinted (cond b (date_text day) [])
    by true = date_printed day
    by false = tt

pub day_utf8 : (day : ℤ) → IsUtf8 (output_day day)
day_utf8 day = printed_utf8 (output_day day) (day_printed day)
