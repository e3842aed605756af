-- What the bodies of the table do, by their places alone, as the code has it.
use Rattle.std.specs.Prelude.{ℕ, ◌/◌, ◌%◌, ◌-◌, ◌==◌, nat_lt, Option, Some, None, cond}
use Rattle.xp_call.specs.declared.operations.IntType.{IntType}
use Rattle.xp_call.specs.declared.operations.IntType.TheVariants.{Int2, Int4, Int8}
use Rattle.xp_call.specs.declared.operations.Binary.{Binary}
use Rattle.xp_call.specs.declared.operations.Binary.TheVariants as binary
use Rattle.xp_call.specs.declared.operations.Unary.TheVariants as unary
use Rattle.xp_call.specs.declared.operations.Shift.TheVariants as shift
use Rattle.xp_call.specs.declared.operations.Operation.{Operation}
use Rattle.xp_call.specs.declared.operations.Operation.TheVariants as operation
use Rattle.xp_call.specs.declared.numerics.NumericBinary.{NumericBinary}
use Rattle.xp_call.specs.declared.numerics.NumericBinary.TheVariants as numeric_binary
use Rattle.xp_call.specs.declared.numerics.NumericUnary.{NumericUnary}
use Rattle.xp_call.specs.declared.numerics.NumericUnary.TheVariants as numeric_unary
use Rattle.xp_call.specs.declared.numerics.ToPlaces.TheVariants as to_places
use Rattle.xp_call.specs.declared.numerics.NumericOperation.{NumericOperation}
use Rattle.xp_call.specs.declared.numerics.NumericOperation.TheVariants as numeric
use Rattle.xp_call.specs.declared.dates.DateOperation.{DateOperation}
use Rattle.xp_call.specs.declared.dates.DateOperation.TheVariants as dates
use Rattle.xp_call.specs.inner.Comparisons.{comparison_word}
use Rattle.xp_call.specs.inner.TextPlaces.{text_at}

abbrev pub int_type_at : ℕ → IntType
int_type_at place = cond (place == 0) Int2 (cond (place == 1) Int4 Int8)

abbrev pub arithmetic_word : ℕ → Binary
arithmetic_word place = cond (place == 0) binary.Add (cond (place == 1) binary.Subtract (cond (place == 2) binary.Multiply binary.Divide))

abbrev pub arithmetic_at : ℕ → Operation
arithmetic_at place = operation.Binary (arithmetic_word (place / 9)) (int_type_at (place / 3 % 3)) (int_type_at (place % 3))

abbrev pub comparison_at : ℕ → Operation
comparison_at place = operation.Compare (comparison_word (place / 9)) (int_type_at (place / 3 % 3)) (int_type_at (place % 3))

abbrev pub within_type : IntType → ℕ → Operation
within_type a word =
    cond (word == 0) (operation.Binary binary.Modulo a a) (
    cond (word == 1) (operation.Binary binary.And a a) (
    cond (word == 2) (operation.Binary binary.Or a a) (
    cond (word == 3) (operation.Binary binary.Xor a a) (
    cond (word == 4) (operation.Unary unary.Not a) (
    cond (word == 5) (operation.Unary unary.Negate a) (
    cond (word == 6) (operation.Unary unary.Plus a) (
    cond (word == 7) (operation.Unary unary.Absolute a) (
    cond (word == 8) (operation.Shift shift.Left a) (operation.Shift shift.Right a)))))))))

abbrev pub within_type_at : ℕ → Operation
within_type_at place = within_type (int_type_at (place / 10)) (place % 10)

abbrev pub other_at : ℕ → Operation
other_at place =
    cond (place == 0) (operation.Cast Int4 Int2) (
    cond (place == 1) (operation.Cast Int8 Int2) (
    cond (place == 2) (operation.Cast Int2 Int4) (
    cond (place == 3) (operation.Cast Int8 Int4) (
    cond (place == 4) operation.Int4OfBool (
    cond (place == 5) (operation.Cast Int2 Int8) (
    cond (place == 6) (operation.Cast Int4 Int8) (
    cond (place == 7) operation.BoolOfInt4 (
    cond (place == 8) operation.HexOfInt4 (
    cond (place == 9) operation.HexOfInt8 (operation.CompareBools (comparison_word (place - 10))))))))))))

abbrev pub numeric_binary_word : ℕ → NumericBinary
numeric_binary_word place =
    cond (place == 0) numeric_binary.Add (
    cond (place == 1) numeric_binary.Subtract (
    cond (place == 2) numeric_binary.Multiply (
    cond (place == 3) numeric_binary.Divide (
    cond (place == 4) numeric_binary.Modulo numeric_binary.DivideWhole))))

abbrev pub numeric_unary_word : ℕ → NumericUnary
numeric_unary_word place =
    cond (place == 0) numeric_unary.Negate (
    cond (place == 1) numeric_unary.Plus (
    cond (place == 2) numeric_unary.Absolute (
    cond (place == 3) numeric_unary.Sign (
    cond (place == 4) numeric_unary.Ceiling (
    cond (place == 5) numeric_unary.Floor numeric_unary.TrimScale)))))

abbrev pub numeric_other : ℕ → NumericOperation
numeric_other place =
    cond (place == 0) (numeric.Unary numeric_unary.Round) (
    cond (place == 1) (numeric.AtPlaces to_places.Round) (
    cond (place == 2) (numeric.Unary numeric_unary.Truncate) (
    cond (place == 3) (numeric.AtPlaces to_places.Truncate) (
    cond (place == 4) numeric.Scale (
    cond (nat_lt place 8) (numeric.OfInt (int_type_at (place - 5))) (numeric.ToInt (int_type_at (place - 8))))))))

abbrev pub numeric_at : ℕ → NumericOperation
numeric_at place =
    cond (nat_lt place 6) (numeric.Binary (numeric_binary_word place)) (
    cond (nat_lt place 12) (numeric.Compare (comparison_word (place - 6))) (
    cond (nat_lt place 19) (numeric.Unary (numeric_unary_word (place - 12))) (numeric_other (place - 19))))

abbrev pub date_at : ℕ → DateOperation
date_at place =
    cond (nat_lt place 6) (dates.Compare (comparison_word place)) (
    cond (place == 6) dates.DayPlusCount (
    cond (place == 7) dates.CountPlusDay (
    cond (place == 8) dates.DayMinusCount (
    cond (place == 9) dates.DaysBetween (
    cond (place == 10) dates.Make dates.Extract)))))

abbrev pub later_at : ℕ → Option Operation
later_at place =
    cond (nat_lt place 30) (Some (operation.Numeric (numeric_at place))) (
    cond (nat_lt place 107) (text_at (place - 30)) (
    cond (nat_lt place 119) (Some (operation.Date (date_at (place - 107)))) None))

unfoldable pub operation_by_place : ℕ → Option Operation
operation_by_place place =
    cond (nat_lt place 36) (Some (arithmetic_at place)) (
    cond (nat_lt place 90) (Some (comparison_at (place - 36))) (
    cond (nat_lt place 120) (Some (within_type_at (place - 90))) (
    cond (nat_lt place 136) (Some (other_at (place - 120))) (later_at (place - 136)))))
