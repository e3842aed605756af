-- The operations on dates: their names, and what they give (manual 9.9).
use Rattle.std.specs.Prelude.{ℕ, ◌+ℤ◌, ◌-ℤ◌, List, [], ◌∷◌, ◌++◌, map, codes, Ok}
use Rattle.std.specs.Ordering.{int_cmp}
use Rattle.xp_base.specs.FromLeft.{and_then}
use Rattle.xp_bodies.specs.Row.{name_of}
use Rattle.xp_date.specs.Days.{made, within_years}
use Rattle.xp_date.specs.Fields.{extracted}
use Rattle.xp_numeric.specs.Numbers.{made as numeric_made}
use Rattle.xp_value.specs.declared.value.Value.{Value}
use Rattle.xp_call.specs.Arguments.{Outcome, date, day_in, holds, integer_in, number, numeric, of_three, of_two, text_in, truth}
use Rattle.xp_call.specs.Words.{comparison_word, comparisons}
use Rattle.xp_call.specs.declared.operations.IntType.TheVariants.{Int4}
use Rattle.xp_call.specs.declared.dates.DateOperation.{DateOperation}
use Rattle.xp_call.specs.declared.dates.DateOperation.TheVariants as operation

-- what it gives of the values of its arguments
abbrev pub of_dates : DateOperation → List Value → Outcome
of_dates (operation.Compare word) = of_two day_in day_in (λ a b. truth (holds word (int_cmp a b)))
of_dates operation.DayPlusCount = of_two day_in (integer_in Int4) (λ day n. date (within_years (day +ℤ n)))
of_dates operation.CountPlusDay = of_two (integer_in Int4) day_in (λ n day. date (within_years (n +ℤ day)))
of_dates operation.DayMinusCount = of_two day_in (integer_in Int4) (λ day n. date (within_years (day -ℤ n)))
of_dates operation.DaysBetween = of_two day_in day_in (λ a b. number (Ok (a -ℤ b)))
of_dates operation.Make = of_three (integer_in Int4) (integer_in Int4) (integer_in Int4) (λ year month day. date (made year month day))
of_dates operation.Extract = of_two text_in day_in (λ field day. numeric (and_then (extracted field day) (λ z. numeric_made z 0)))

-- the name of the body that does it: its word and the types of its arguments
abbrev pub date_name : DateOperation → List ℕ
date_name (operation.Compare word) = name_of (comparison_word word) (codes "date" ∷ codes "date" ∷ [])
date_name operation.DayPlusCount = codes "add_date_int4"
date_name operation.CountPlusDay = codes "add_int4_date"
date_name operation.DayMinusCount = codes "sub_date_int4"
date_name operation.DaysBetween = codes "sub_date_date"
date_name operation.Make = codes "make_date_int4_int4_int4"
date_name operation.Extract = codes "extract_text_date"

abbrev pub date_operations : List DateOperation
date_operations =
    map operation.Compare comparisons
    ++ operation.DayPlusCount ∷ operation.CountPlusDay ∷ operation.DayMinusCount ∷ operation.DaysBetween ∷ operation.Make ∷ operation.Extract ∷ []
