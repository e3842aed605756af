-- Where a day lies among the weeks of ISO 8601 years.
use Rattle.std.proofs.Common.{◌≡◌, ℕ, suc, ◌+◌, ◌-◌, ◌*◌, ◌/◌, ◌<◌, ◌≤◌, true, refl, arith, rules, ℤ, pos, neg_ℤ, ◌+ℤ◌, ◌-ℤ◌, ◌<ℤ◌, ◌≤ℤ◌, unsigned_abs}
use Rattle.std.proofs.lemmas.Int.{by_lt_z}
use Rattle.jiff_core.specs.Calendar.{iso_year_start, IsYear}
use Rattle.jiff_core.specs.IsoWeek.{days_from_iso}
use Rattle.jiff_core.specs.IsoWeekDate.{iso_epoch_day}
use Rattle.jiff_core.specs.Weekday.{monday_zero}
use Rattle.jiff_core.specs.declared.civil.iso_week_date.ISOWeekDate.{ISOWeekDate}
use Rattle.jiff_core.specs.declared.civil.weekday.Weekday.{Weekday}
use Rattle.jiff_core.specs.declared.civil.weekday.Weekday.TheVariants.{Monday, Tuesday, Wednesday, Thursday, Friday, Saturday, Sunday}
use Rattle.jiff_core.proofs.SignedLemmas.{signed_arith, one_part}
use Rattle.jiff_core.proofs.CalendarLemmas.{days_from_civil-day_count, days_in_year_bounds, day_count-later_year}
use Rattle.jiff_core.proofs.IsoWeekLemmas.{day_count-fourth, iso_year_start-day_count, iso_year_start-end, iso_year_start_near, weeks_in_year-next}
use Rattle.xp_value.specs.Representation.{is_date}
use Rattle.xp_date.specs.Days.{week_of, week_year_of, week_year_start}
use Rattle.xp_date.proofs.Parts.{day_count-first, in_years, latest_at, IsAt}

-- 0001-01-01 was a Monday
first_start : iso_year_start (pos 1) ≡ neg_ℤ (pos 719162)
first_start =
    omega (arith, signed_arith, iso_year_start-day_count (pos 1) (search rules), day_count-fourth (pos 1) (search rules), day_count-first)

pub week_year_at : (day : ℤ) → is_date day ≡ true → IsAt week_year_start 9999 day (week_year_of day)
unfolding week_year_of
week_year_at day h =
    let years = in_years day h in
    let low : iso_year_start (pos 1) ≤ℤ day = rw first_start years.0 in
    let high : day <ℤ iso_year_start (pos 10000) = rw iso_year_start-end (omega (arith, signed_arith, years.1)) in
    latest_at week_year_start 9999 day low high

monday_bound : (w : Weekday) → monday_zero w < 7
monday_bound Monday = omega arith
monday_bound Tuesday = omega arith
monday_bound Wednesday = omega arith
monday_bound Thursday = omega arith
monday_bound Friday = omega arith
monday_bound Saturday = omega arith
monday_bound Sunday = omega arith

-- later years begin later
start_later : (y z : ℤ) → IsYear y → z ≤ℤ pos 10000 → y <ℤ z → iso_year_start (y +ℤ pos 1) ≤ℤ iso_year_start z
start_later y z year top h =
    by_lt_z (y +ℤ pos 1) z
    (λ lt.
    let near = iso_year_start_near (y +ℤ pos 1) (omega (arith, signed_arith, year.0), omega (arith, signed_arith, year.1)) in
    let far = iso_year_start_near z (omega (arith, signed_arith, year.0), top) in
    let later = day_count-later_year (y +ℤ pos 1) z (omega (arith, signed_arith, year.0)) lt in
    let long = days_in_year_bounds (y +ℤ pos 1) in
    omega (arith, signed_arith, near.0, far.1, later, long.1, days_from_civil-day_count (y +ℤ pos 1) 1 1, days_from_civil-day_count z 1 1))
    (λ ge. let e : z ≡ y +ℤ pos 1 = omega (arith, signed_arith) in rw e (omega (arith, signed_arith)))

-- a week lies between the start of its year and the next one's
within : (start next day : ℤ) (weeks week w : ℕ) → next ≡ start +ℤ pos (7 * weeks) → 1 ≤ week → week ≤ weeks → w < 7 → start +ℤ pos ((week - 1) * 7 + w) ≡ day → (start ≤ℤ day) × (day <ℤ next)
within start next day weeks week w e low high bound f = (omega (arith, signed_arith), omega (arith, signed_arith))

week_is : (start day : ℤ) (week w : ℕ) → 1 ≤ week → w < 7 → start +ℤ pos ((week - 1) * 7 + w) ≡ day → week ≡ unsigned_abs (day -ℤ start) / 7 + 1
week_is start day week w low bound f =
    let e : unsigned_abs (day -ℤ start) ≡ (week - 1) * 7 + w = omega (arith, signed_arith, one_part (day -ℤ start)) in
    rw e (omega arith)

-- a week date of jiff has the year and the week of its day
year_is : (d : ISOWeekDate) (day : ℤ) → is_date day ≡ true → iso_epoch_day d ≡ day → d.year ≡ pos (week_year_of day)
unfolding days_from_iso
year_is d day h e =
    let at = week_year_at day h in
    let k = week_year_of day in
    let next : pos k +ℤ pos 1 ≡ pos (suc k) = omega (arith, signed_arith) in
    let weeks = weeks_in_year-next d.year (d.year +ℤ pos 1) d.year_in refl in
    let here = within _ _ day _ d.week (monday_zero d.weekday) weeks.0 d.week_in.0 d.week_in.1 (monday_bound d.weekday) e in
    by_lt_z d.year (pos k)
    (λ lt. absurd (omega (arith, signed_arith, start_later d.year (pos k) d.year_in (omega (arith, signed_arith, at.1)) lt, here.1, at.2)))
    (λ le. by_lt_z (pos k) d.year
    (λ gt. absurd (omega (arith, signed_arith, rw next at (start_later (pos k) d.year (omega (arith, signed_arith), omega (arith, signed_arith, at.1)) (omega (arith, signed_arith, d.year_in.1)) gt), here.0, at.3)))
    (λ ge. omega (arith, signed_arith)))

pub week_parts : (d : ISOWeekDate) (day : ℤ) → is_date day ≡ true → iso_epoch_day d ≡ day → (d.year ≡ pos (week_year_of day)) × (d.week ≡ week_of day)
unfolding days_from_iso week_of
week_parts d day h e =
    let year = year_is d day h e in
    let f : iso_year_start (pos (week_year_of day)) +ℤ pos ((d.week - 1) * 7 + monday_zero d.weekday) ≡ day = rw (← year) e in
    (year, week_is _ day d.week (monday_zero d.weekday) d.week_in.0 (monday_bound d.weekday) f)
