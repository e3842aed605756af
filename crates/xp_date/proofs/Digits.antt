-- The digits that years, months and days of the month are written with.
use Rattle.std.proofs.Common.{◌≡◌, ℕ, ◌+◌, ◌*◌, ◌/◌, ◌%◌, ◌<◌, true, if◌then◌else◌, [], ◌∷◌, refl, ap, ◌∙◌, arith, mod-lt, ℤ, pos, Some, None, Ok}
use Rattle.std.specs.Char.{digit_value}
use Rattle.std.proofs.lemmas.Bool.{and_from, lt-ltb}
use Rattle.jiff_core.proofs.CalendarLemmas.{days_in_month_bounds}
use Rattle.xp_value.specs.Representation.{is_date}
use Rattle.xp_date.specs.Days.{day_of_month, month_of, year_of}
use Rattle.xp_date.specs.Texts.{date_in, digit, four_digits, is_decimal, made_of, number_in, text, two_digits}
use Rattle.xp_date.proofs.Made.{made_parts}
use Rattle.xp_date.proofs.Parts.{day_at, month_at, year_at}

written : (r : ℕ) → r < 10 → digit_value (48 + r) ≡ r
written r h = grind arith

digit_is : (n : ℕ) → digit_value (digit n) ≡ n % 10
digit_is n = written (n % 10) (mod-lt n (omega arith))

digit_decimal : (n : ℕ) → is_decimal (digit n) ≡ true
digit_decimal n =
    let below : n % 10 < 10 = mod-lt n (omega arith) in
    let h : digit_value (digit n) < 10 = rw (digit_is n) below in
    lt-ltb (digit_value (digit n)) 10 h

pub number_two : (a b : ℕ) → is_decimal a ≡ true → is_decimal b ≡ true → number_in (a ∷ b ∷ []) ≡ Some ((0 * 10 + digit_value a) * 10 + digit_value b)
number_two a b e f = ap (λ t. if t then Some ((0 * 10 + digit_value a) * 10 + digit_value b) else None) (and_from _ _ e (and_from _ _ f refl))

pub number_four : (a b c d : ℕ) → is_decimal a ≡ true → is_decimal b ≡ true → is_decimal c ≡ true → is_decimal d ≡ true → number_in (a ∷ b ∷ c ∷ d ∷ []) ≡ Some ((((0 * 10 + digit_value a) * 10 + digit_value b) * 10 + digit_value c) * 10 + digit_value d)
number_four a b c d e f g h = ap (λ t. if t then Some ((((0 * 10 + digit_value a) * 10 + digit_value b) * 10 + digit_value c) * 10 + digit_value d) else None) (and_from _ _ e (and_from _ _ f (and_from _ _ g (and_from _ _ h refl))))

two_value : (x y n : ℕ) → x ≡ n / 10 % 10 → y ≡ n % 10 → n < 100 → (0 * 10 + x) * 10 + y ≡ n
two_value x y n e f h = omega arith

four_value : (a b c d n : ℕ) → a ≡ n / 1000 % 10 → b ≡ n / 100 % 10 → c ≡ n / 10 % 10 → d ≡ n % 10 → n < 10000 → (((0 * 10 + a) * 10 + b) * 10 + c) * 10 + d ≡ n
four_value a b c d n e f g h k = omega arith

two_read : (n : ℕ) → n < 100 → number_in (two_digits n) ≡ Some n
two_read n h =
    number_two (digit (n / 10)) (digit n) (digit_decimal (n / 10)) (digit_decimal n)
    ∙ ap Some (two_value _ _ n (digit_is (n / 10)) (digit_is n) h)

four_read : (n : ℕ) → n < 10000 → number_in (four_digits n) ≡ Some n
four_read n h =
    number_four (digit (n / 1000)) (digit (n / 100)) (digit (n / 10)) (digit n) (digit_decimal (n / 1000)) (digit_decimal (n / 100)) (digit_decimal (n / 10)) (digit_decimal n)
    ∙ ap Some (four_value _ _ _ _ n (digit_is (n / 1000)) (digit_is (n / 100)) (digit_is (n / 10)) (digit_is n) h)

pub read_back : (day : ℤ) → is_date day ≡ true → date_in (text day) ≡ Ok day
read_back day h =
    let y = year_at day h in
    let m = month_at day h in
    let d = day_at day h in
    let long = days_in_month_bounds (pos (year_of day)) (month_of day) in
    let year = four_read (year_of day) (omega (arith, y.1)) in
    let month = two_read (month_of day) (omega (arith, m.1)) in
    let place = two_read (day_of_month day) (omega (arith, d.1, long.0)) in
    ap (λ a. made_of a (number_in (two_digits (month_of day))) (number_in (two_digits (day_of_month day)))) year
    ∙ ap (λ a. made_of (Some (year_of day)) a (number_in (two_digits (day_of_month day)))) month
    ∙ ap (λ a. made_of (Some (year_of day)) (Some (month_of day)) a) place
    ∙ made_parts day h
