-- Which years, months and days of the month make a day.
use Rattle.std.proofs.Common.{◌≡◌, ℕ, zero, suc, ◌≤◌, Bool, true, false, if◌then◌else◌, int_le, refl, ap, ◌∙◌, arith, ℤ, pos, negsuc, neg_ℤ, ◌≤ℤ◌, unsigned_abs, Result, Ok, Err}
use Rattle.std.specs.Prelude.{IfOk}
use Rattle.std.proofs.lemmas.Bool.{and_from, and_parts}
use Rattle.jiff_core.specs.Calendar.{day_count, days_from_civil, days_in_month, IsCivilDate, IsDate}
use Rattle.jiff_core.proofs.SignedLemmas.{signed_arith}
use Rattle.jiff_core.proofs.CalendarLemmas.{days_from_civil-day_count, day_count-day_of_year, day_count-lt_year, day_count_bounds}
use Rattle.xp_base.specs.declared.codes.EvalError.{EvalError}
use Rattle.xp_base.specs.declared.codes.EvalError.TheVariants.{DateOutOfRange}
use Rattle.xp_value.specs.Representation.{is_date}
use Rattle.xp_value.specs.declared.value.TheConstants.{FIRST_DAY, LAST_DAY}
use Rattle.xp_date.specs.Days.{day_of_month, is_day, is_from_1, made, month_of, year_of}
use Rattle.xp_date.proofs.Parts.{day_at, day_count-first, month_at, parts_day, year_at}

at_most : (a b : ℤ) → a ≤ℤ b → int_le a b ≡ true
at_most a b h = by (int_le a b) refl
  where
    by : (t : Bool) → int_le a b ≡ t → int_le a b ≡ true
    by true e = e
    by false e = absurd (omega (arith, signed_arith, e, h))

from_1 : (n : ℕ) (z : ℤ) → pos 1 ≤ℤ z → z ≤ℤ pos n → is_from_1 n z ≡ true
from_1 n z low high = and_from _ _ (at_most _ _ low) (at_most _ _ high)

day_is : (y m d : ℤ) → pos 1 ≤ℤ y → IsDate y m d → is_day y m d ≡ true
day_is y m d low h = and_from _ _ (and_from _ _ (from_1 9999 y low h.0.1) (from_1 12 m h.1.0 h.1.1)) (from_1 _ d h.2.0 h.2.1)

pub made_parts : (day : ℤ) → is_date day ≡ true → made (pos (year_of day)) (pos (month_of day)) (pos (day_of_month day)) ≡ Ok day
made_parts day h =
    let y = year_at day h in
    let m = month_at day h in
    let d = day_at day h in
    let low : pos 1 ≤ℤ pos (year_of day) = omega (arith, signed_arith, y.0) in
    let date : IsDate (pos (year_of day)) (pos (month_of day)) (pos (day_of_month day)) = ((omega (arith, signed_arith), omega (arith, signed_arith, y.1)), (omega (arith, signed_arith, m.0), omega (arith, signed_arith, m.1)), (omega (arith, signed_arith, d.0), omega (arith, signed_arith, d.1))) in
    ap (λ b. if b then Ok (days_from_civil (pos (year_of day)) (month_of day) (day_of_month day)) else Err DateOutOfRange) (day_is _ _ _ low date)
    ∙ ap Ok (parts_day day h)

-- ---- what is made lies in the years

within : (n : ℕ) (z : ℤ) → is_from_1 n z ≡ true → (pos 1 ≤ℤ z) × (z ≤ℤ pos n)
within n z e = let both = and_parts (int_le (pos 1) z) (int_le z (pos n)) e in (omega (arith, signed_arith, both.0), omega (arith, signed_arith, both.1))

sized : (n : ℕ) (z : ℤ) → pos 1 ≤ℤ z → z ≤ℤ pos n → (1 ≤ unsigned_abs z) × (unsigned_abs z ≤ n)
sized n (pos k) low high = (omega (arith, signed_arith, low), omega (arith, signed_arith, high))
sized n (negsuc k) low high = absurd (omega (arith, signed_arith, low))

not_before : (y : ℤ) → pos 1 ≤ℤ y → y ≤ℤ pos 9999 → day_count (pos 1) 1 1 ≤ day_count y 1 1
not_before (negsuc n) low high = absurd (omega (arith, signed_arith, low))
not_before (pos zero) low high = absurd (omega (arith, signed_arith, low))
not_before (pos (suc zero)) low high = omega arith
not_before (pos (suc (suc n))) low high =
    let first : IsCivilDate (pos 1) 1 1 = ((omega (arith, signed_arith), omega (arith, signed_arith)), (omega arith, omega arith), (omega arith, omega arith)) in
    let less = day_count-lt_year (pos 1) 1 1 (pos (suc (suc n))) 1 1 first (omega arith) (omega (arith, signed_arith)) in
    omega arith

-- the parts are a day of the calendar in one of the years
civil : (y m d : ℤ) → is_day y m d ≡ true → IsCivilDate y (unsigned_abs m) (unsigned_abs d) × ((pos 1 ≤ℤ y) × (y ≤ℤ pos 9999) × (1 ≤ unsigned_abs d))
civil y m d e =
    let outer = and_parts _ (is_from_1 (days_in_month y (unsigned_abs m)) d) e in
    let inner = and_parts (is_from_1 9999 y) (is_from_1 12 m) outer.0 in
    let year = within 9999 y inner.0 in
    let month = within 12 m inner.1 in
    let day = within (days_in_month y (unsigned_abs m)) d outer.1 in
    let months = sized 12 m month.0 month.1 in
    let days = sized (days_in_month y (unsigned_abs m)) d day.0 day.1 in
    (((omega (arith, signed_arith, year.0), omega (arith, signed_arith, year.1)), months, days), (year.0, year.1, days.0))

made_lies : (y m d : ℤ) → is_day y m d ≡ true → is_date (days_from_civil y (unsigned_abs m) (unsigned_abs d)) ≡ true
made_lies y m d e =
    let c = civil y m d e in
    let start = not_before y c.1.0 c.1.1 in
    let behind = day_count-day_of_year y (unsigned_abs m) (unsigned_abs d) c.1.2 in
    let most = day_count_bounds y (unsigned_abs m) (unsigned_abs d) c.0 in
    let counted = days_from_civil-day_count y (unsigned_abs m) (unsigned_abs d) in
    let day = days_from_civil y (unsigned_abs m) (unsigned_abs d) in
    let low : FIRST_DAY ≤ℤ day = omega (arith, signed_arith, start, behind, counted, day_count-first, c.1.2) in
    let high : day ≤ℤ LAST_DAY = omega (arith, signed_arith, most.1, counted) in
    and_from (int_le FIRST_DAY day) (int_le day LAST_DAY) (at_most FIRST_DAY day low) (at_most day LAST_DAY high)

made_is_date : (y m d : ℤ) → IfOk (made y m d) (λ day. is_date day ≡ true)
made_is_date y m d = by (is_day y m d) refl
  where
    by : (t : Bool) → is_day y m d ≡ t → IfOk (if t then Ok (days_from_civil y (unsigned_abs m) (unsigned_abs d)) else Err DateOutOfRange) (λ day. is_date day ≡ true)
    by true e = made_lies y m d e
    by false e = tt

pub result_is_date : (r : Result ℤ EvalError) (y m d : ℤ) → r ≡ made y m d → IfOk r (λ day. is_date day ≡ true)
result_is_date r y m d e = rw e (made_is_date y m d)
