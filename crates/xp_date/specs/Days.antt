-- Dates as days since 1970-01-01, and the year, month, day and ISO 8601 week of a day (manual 8.5, 9.9.1).
use Rattle.std.specs.Prelude.{ℕ, zero, suc, ◌+◌, ◌/◌, ℤ, pos, ◌-ℤ◌, unsigned_abs, int_le, Bool, ◌&&◌, if◌then◌else◌, Result, Ok, Err}
use Rattle.jiff_core.specs.Calendar.{days_from_civil, days_in_month, iso_year_start}
use Rattle.xp_base.specs.declared.codes.EvalError.{EvalError}
use Rattle.xp_base.specs.declared.codes.EvalError.TheVariants.{DateOutOfRange}
use Rattle.xp_value.specs.Representation.{is_date}

-- a day, where it is in one of the years 1 to 9999
abbrev pub within_years : ℤ → Result ℤ EvalError
within_years day = if is_date day then Ok day else Err DateOutOfRange

-- z is one of the numbers 1 to n
abbrev pub is_from_1 : ℕ → ℤ → Bool
is_from_1 n z = int_le (pos 1) z && int_le z (pos n)

-- the calendar has this day, in one of the years
abbrev pub is_day : ℤ → ℤ → ℤ → Bool
is_day y m d = is_from_1 9999 y && is_from_1 12 m && is_from_1 (days_in_month y (unsigned_abs m)) d

-- the day with this year, month and day of the month
abbrev pub made : ℤ → ℤ → ℤ → Result ℤ EvalError
made y m d = if is_day y m d then Ok (days_from_civil y (unsigned_abs m) (unsigned_abs d)) else Err DateOutOfRange

-- the first day of a year, and of a month in it
abbrev pub year_start : ℕ → ℤ
year_start y = days_from_civil (pos y) 1 1

abbrev pub month_start : ℕ → ℕ → ℤ
month_start y m = days_from_civil (pos y) m 1

-- the first day of an ISO 8601 year: "ISO weeks start on Mondays and the first week of a year contains January 4 of that year"
abbrev pub week_year_start : ℕ → ℤ
week_year_start y = iso_year_start (pos y)

-- the last of the numbers 1 to n whose start isn't after the day
unfoldable pub latest : (ℕ → ℤ) → ℕ → ℤ → ℕ
latest start zero day = zero
latest start (suc n) day = if int_le (start (suc n)) day then suc n else latest start n day

-- the year that the day is in, the month of that year, and the place in that month
unfoldable pub year_of : ℤ → ℕ
year_of day = latest year_start 9999 day

unfoldable pub month_of : ℤ → ℕ
month_of day = latest (month_start (year_of day)) 12 day

unfoldable pub day_of_month : ℤ → ℕ
day_of_month day = unsigned_abs (day -ℤ month_start (year_of day) (month_of day)) + 1

-- the ISO 8601 year that the day is in, and the week of that year
unfoldable pub week_year_of : ℤ → ℕ
week_year_of day = latest week_year_start 9999 day

unfoldable pub week_of : ℤ → ℕ
week_of day = unsigned_abs (day -ℤ week_year_start (week_year_of day)) / 7 + 1
