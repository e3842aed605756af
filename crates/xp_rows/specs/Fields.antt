-- The value that a field of a row is (this project's own; null and backslashes as in manual COPY).
use Rattle.std.specs.Prelude.{ℕ, ◌+◌, List, [], ◌∷◌, Bool, ◌==◌, ◌&&◌, cond, codes, drop, length, nat_le, slice_index, Result, Ok, Err}
use Rattle.std.specs.Str.{bytes_eq}
use Rattle.xp_base.specs.declared.codes.EvalError.{EvalError}
use Rattle.xp_base.specs.declared.limits.TheConstants.{ROW_LIMIT}
use Rattle.xp_base.specs.declared.numbers.TypeNo.{TypeNo}
use Rattle.xp_value.specs.declared.value.Value.{Value}
use Rattle.xp_value.specs.declared.value.Value.TheVariants.{Null}
use Rattle.xp_catalog.specs.declared.header.HeaderColumn.{HeaderColumn}
use Rattle.xp_catalog.specs.Contents.{Contents}
use Rattle.xp_io.specs.Forms.{input}
use Rattle.xp_io.specs.Representations.{shape_of}
use Rattle.xp_rows.specs.declared.fault.RowsFault.{RowsFault}
use Rattle.xp_rows.specs.declared.fault.RowsFault.TheVariants.{Field, TooMany, Width}
use Rattle.xp_rows.specs.Faults.{and_then, followed}
use Rattle.xp_rows.specs.Records.{field}

abbrev pub backslash : ℕ
backslash = 92

abbrev pub begins_with_two : List ℕ → Bool
begins_with_two text = slice_index text 0 == backslash && slice_index text 1 == backslash

-- one of two backslashes at the front falls
abbrev pub unescaped : List ℕ → List ℕ
unescaped text = cond (begins_with_two text) (drop 1 text) text

-- `\N` is null, every other field the text of a value
abbrev pub value_of : Contents → TypeNo → List ℕ → Result Value EvalError
value_of c type text = cond (bytes_eq text (codes "\\N")) (Ok Null) (input (shape_of c type) (unescaped text))

-- a value, or why the field of that row and column is none, counted from 1
abbrev pub placed : ℕ → ℕ → Result Value EvalError → Result Value RowsFault
placed row column (Ok v) = Ok v
placed row column (Err e) = Err (Field row column e)

-- the values of the columns, the first of which is that of the field at a place
abbrev pub values_from : Contents → ℕ → List (List ℕ) → ℕ → List HeaderColumn → Result (List Value) RowsFault
values_from c row fields place [] = Ok []
values_from c row fields place (column ∷ columns) =
    and_then (placed row (place + 1) (value_of c column.ty (field fields place))) (λ v. followed v (values_from c row fields (place + 1) columns))

-- the values of a row, which is as wide as the header
abbrev pub row_values : Contents → List HeaderColumn → ℕ → List (List ℕ) → Result (List Value) RowsFault
row_values c header row fields = cond (length fields == length header) (values_from c row fields 0 header) (Err (Width row))

-- one row more than there may be is too many, whatever it holds
abbrev pub row_of : Contents → List HeaderColumn → ℕ → List (List ℕ) → Result (List Value) RowsFault
row_of c header row fields = cond (nat_le row ROW_LIMIT) (row_values c header row fields) (Err (TooMany row))
