-- The fields of EXTRACT over dates (manual 9.9.1).
use Rattle.std.specs.Prelude.{ℕ, ◌+◌, ◌/◌, ◌%◌, ℤ, pos, ◌+ℤ◌, ◌-ℤ◌, ◌*ℤ◌, Bool, List, cond, codes, Option, Some, None, Result}
use Rattle.std.specs.Option.{ok_or, option_map}
use Rattle.std.specs.Str.{bytes_eq, str_to_ascii_lowercase}
use Rattle.jiff_core.specs.Calendar.{weekday_number}
use Rattle.xp_base.specs.declared.codes.EvalError.{EvalError}
use Rattle.xp_base.specs.declared.codes.EvalError.TheVariants.{BadParameter}
use Rattle.xp_date.specs.Days.{day_of_month, month_of, week_of, week_year_of, year_of, year_start}
use Rattle.xp_date.specs.declared.fields.Field.{Field}
use Rattle.xp_date.specs.declared.fields.Field.TheVariants.{Year, Month, Day, Quarter, Doy, Dow, Isodow, Week, Isoyear, Epoch}

-- the field's number of a day:
-- "The year field"
-- "The number of the month within the year (1-12)"
-- "The day of the month (1-31)"
-- "The quarter of the year (1-4) that the date is in"
-- "The day of the year (1-365/366)"
-- "The day of the week as Sunday (0) to Saturday (6)"; weekday_number is 0 for Monday
-- "The day of the week as Monday (1) to Sunday (7)"
-- "The number of the ISO 8601 week-numbering week of the year"
-- "The ISO 8601 week-numbering year that the date falls in"
-- the number of seconds since 1970-01-01 00:00:00
abbrev pub number : Field → ℤ → ℤ
number Year day = pos (year_of day)
number Month day = pos (month_of day)
number Day day = pos (day_of_month day)
number Quarter day = pos ((month_of day + 2) / 3)
number Doy day = day -ℤ year_start (year_of day) +ℤ pos 1
number Dow day = pos ((weekday_number day + 1) % 7)
number Isodow day = pos (weekday_number day + 1)
number Week day = pos (week_of day)
number Isoyear day = pos (week_year_of day)
number Epoch day = day *ℤ pos 86400

-- the name in lower case is the word
abbrev pub spells : List ℕ → List ℕ → Bool
spells word name = bytes_eq (str_to_ascii_lowercase name) word

-- the field of that name, in any case of its letters
abbrev pub field_named : List ℕ → Option Field
field_named name =
    cond (spells (codes "year") name) (Some Year) (
    cond (spells (codes "month") name) (Some Month) (
    cond (spells (codes "day") name) (Some Day) (
    cond (spells (codes "quarter") name) (Some Quarter) (
    cond (spells (codes "doy") name) (Some Doy) (
    cond (spells (codes "dow") name) (Some Dow) (
    cond (spells (codes "isodow") name) (Some Isodow) (
    cond (spells (codes "week") name) (Some Week) (
    cond (spells (codes "isoyear") name) (Some Isoyear) (
    cond (spells (codes "epoch") name) (Some Epoch) None)))))))))

-- what EXTRACT gives: the number of the field with that name
abbrev pub extracted : List ℕ → ℤ → Result ℤ EvalError
extracted name day = ok_or (option_map (λ field. number field day) (field_named name)) BadParameter
