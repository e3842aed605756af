-- Where a day lies among the first days of years, months and ISO 8601 years.
use Rattle.std.proofs.Common.{◌≡◌, ℕ, zero, suc, ◌+◌, ◌≤◌, Bool, true, false, ◌&&◌, if◌then◌else◌, int_le, refl, sym, ap, ◌∙◌, arith, rules, ℤ, pos, neg_ℤ, ◌+ℤ◌, ◌-ℤ◌, ◌<ℤ◌, ◌≤ℤ◌, unsigned_abs}
use Rattle.jiff_core.specs.Calendar.{day_count, days_from_civil, days_in_month}
use Rattle.jiff_core.specs.declared.civil.date.Date.{Date}
use Rattle.jiff_core.specs.Date.{epoch_day, ordinal}
use Rattle.jiff_core.proofs.SignedLemmas.{signed_arith, one_part}
use Rattle.jiff_core.proofs.CalendarLemmas.{days_from_civil-day_count, day_count-day_of_year, day_count-next_year, day_count-next_month, day_count-end, days_of_months_all}
use Rattle.jiff_core.proofs.MarchLemmas.{day_count-early}
use Rattle.jiff_core.proofs.DateLemmas.{days_from_civil-day, epoch_day_injective, epoch_day-ordinal}
use Rattle.xp_value.specs.Representation.{is_date}
use Rattle.xp_value.specs.declared.value.TheConstants.{FIRST_DAY, LAST_DAY}
use Rattle.xp_date.specs.Days.{day_of_month, latest, month_of, month_start, year_of, year_start}

-- the start of the kth lies at or before the day, and the next one's behind it
abbrev pub IsAt : (ℕ → ℤ) → ℕ → ℤ → ℕ → Type 0
IsAt start n day k = (1 ≤ k) × (k ≤ n) × (start k ≤ℤ day) × (day <ℤ start (suc k))

pub latest_at : (start : ℕ → ℤ) (n : ℕ) (day : ℤ) → start 1 ≤ℤ day → day <ℤ start (suc n) → IsAt start n day (latest start n day)
unfolding latest
latest_at start zero day low high = absurd (omega (arith, signed_arith))
latest_at start (suc n) day low high = by (int_le (start (suc n)) day) refl (latest_at start n day low)
  where
    by : (b : Bool) → int_le (start (suc n)) day ≡ b → (day <ℤ start (suc n) → IsAt start n day (latest start n day)) → IsAt start (suc n) day (if b then suc n else latest start n day)
    by true e rest = (omega arith, omega arith, omega (arith, signed_arith, e), high)
    by false e rest = let r = rest (omega (arith, signed_arith, e)) in (r.0, omega (arith, r.1), r.2, r.3)

-- a date lies from 0001-01-01 to 9999-12-31
pub in_years : (day : ℤ) → is_date day ≡ true → (neg_ℤ (pos 719162) ≤ℤ day) × (day ≤ℤ pos 2932896)
in_years day h = by (int_le FIRST_DAY day) (int_le day LAST_DAY) refl refl h
  where
    by : (a b : Bool) → int_le FIRST_DAY day ≡ a → int_le day LAST_DAY ≡ b → (a && b) ≡ true → (neg_ℤ (pos 719162) ≤ℤ day) × (day ≤ℤ pos 2932896)
    by true true e f g = (omega (arith, signed_arith, e), omega (arith, signed_arith, f))
    by true false e f g = absurd (search rules)
    by false b e f g = absurd (search rules)

pub day_count-first : day_count (pos 1) 1 1 ≡ 3652791
day_count-first = day_count-early (pos 1) 10000 1 1 refl (omega arith) (omega arith) (omega arith)

pub first_day : days_from_civil (pos 1) 1 1 ≡ neg_ℤ (pos 719162)
first_day = omega (arith, signed_arith, days_from_civil-day_count (pos 1) 1 1, day_count-first)

pub year_at : (day : ℤ) → is_date day ≡ true → IsAt year_start 9999 day (year_of day)
unfolding year_of
year_at day h =
    let years = in_years day h in
    let low : days_from_civil (pos 1) 1 1 ≤ℤ day = rw first_day years.0 in
    let high : day <ℤ days_from_civil (pos 10000) 1 1 = omega (arith, signed_arith, years.1, days_from_civil-day_count (pos 10000) 1 1, day_count-end) in
    latest_at year_start 9999 day low high

-- a thirteenth month would begin with the next year
year_after : (y : ℕ) → days_from_civil (pos y) 13 1 ≡ days_from_civil (pos (suc y)) 1 1
year_after y =
    let next = day_count-next_year (pos y) (pos (suc y)) (omega (arith, signed_arith)) (omega (arith, signed_arith)) in
    let months = day_count-day_of_year (pos y) 13 1 (omega arith) in
    omega (arith, signed_arith, days_from_civil-day_count (pos y) 13 1, days_from_civil-day_count (pos (suc y)) 1 1, next, months, days_of_months_all (pos y))

pub month_at : (day : ℤ) → is_date day ≡ true → IsAt (month_start (year_of day)) 12 day (month_of day)
unfolding month_of
month_at day h =
    let year = year_at day h in
    let high : day <ℤ days_from_civil (pos (year_of day)) 13 1 = rw (year_after (year_of day)) year.3 in
    latest_at (month_start (year_of day)) 12 day year.2 high

month_after : (y m : ℕ) → 1 ≤ m → month_start y (suc m) ≡ month_start y m +ℤ pos (days_in_month (pos y) m)
month_after y m h =
    let same : m + 1 ≡ suc m = omega arith in
    omega (arith, signed_arith, days_from_civil-day_count (pos y) m 1, days_from_civil-day_count (pos y) (suc m) 1, rw same at (day_count-next_month (pos y) m h))

place : (start day next : ℤ) (n : ℕ) → start ≤ℤ day → day <ℤ next → next ≡ start +ℤ pos n → (1 ≤ unsigned_abs (day -ℤ start) + 1) × (unsigned_abs (day -ℤ start) + 1 ≤ n) × (pos (unsigned_abs (day -ℤ start) + 1) ≡ day -ℤ start +ℤ pos 1)
place start day next n low high e = (omega arith, omega (arith, signed_arith, one_part (day -ℤ start)), omega (arith, signed_arith, one_part (day -ℤ start)))

pub day_at : (day : ℤ) → is_date day ≡ true → (1 ≤ day_of_month day) × (day_of_month day ≤ days_in_month (pos (year_of day)) (month_of day)) × (pos (day_of_month day) ≡ day -ℤ month_start (year_of day) (month_of day) +ℤ pos 1)
unfolding day_of_month
day_at day h =
    let month = month_at day h in
    place _ _ _ _ month.2 month.3 (month_after (year_of day) (month_of day) month.0)

-- the day with the parts is the day
pub parts_day : (day : ℤ) → is_date day ≡ true → days_from_civil (pos (year_of day)) (month_of day) (day_of_month day) ≡ day
parts_day day h =
    let d = day_at day h in
    let moved = days_from_civil-day (pos (year_of day)) (month_of day) (day_of_month day) 1 d.0 (omega arith) in
    omega (arith, signed_arith, moved, d.2)

abbrev pub plain : (day : ℤ) → is_date day ≡ true → Date
plain day h = record {
  year = pos (year_of day);
  month = month_of day;
  day = day_of_month day;
  year_in = (let y = year_at day h in (omega (arith, signed_arith), omega (arith, signed_arith, y.1)));
  month_in = (let m = month_at day h in (m.0, m.1));
  day_in = (let d = day_at day h in (d.0, d.1));
}

-- a date of jiff has the parts of its day
pub parts_of : (d : Date) (day : ℤ) → is_date day ≡ true → epoch_day d ≡ day → (d.year ≡ pos (year_of day)) × (d.month ≡ month_of day) × (d.day ≡ day_of_month day)
parts_of d day h e = epoch_day_injective d (plain day h) (e ∙ sym (parts_day day h))

pub place_in_year : (d : Date) (y n : ℕ) (day : ℤ) → d.year ≡ pos y → epoch_day d ≡ day → n ≡ ordinal d → pos n ≡ day -ℤ year_start y +ℤ pos 1
place_in_year d y n day e f g =
    let start : days_from_civil d.year 1 1 ≡ days_from_civil (pos y) 1 1 = ap (λ z. days_from_civil z 1 1) e in
    omega (arith, signed_arith, start, f, g, epoch_day-ordinal d)
