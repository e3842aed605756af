-- The columns that the first record of a rows file names (this project's own).
use Rattle.std.specs.Prelude.{ℕ, ◌+◌, List, [], ◌∷◌, ◌++◌, Bool, ◌==◌, cond, is_some, length, nat_lt, Option, None, Result, Ok, Err}
use Rattle.std.specs.Char.{is_ascii}
use Rattle.std.specs.List.{after_first, before_first, list_all}
use Rattle.std.specs.Option.{option_map_or}
use Rattle.xp_base.specs.declared.limits.TheConstants.{COLUMN_LIMIT}
use Rattle.xp_base.specs.declared.numbers.TypeNo.{TypeNo}
use Rattle.xp_catalog.specs.declared.header.HeaderColumn.{HeaderColumn}
use Rattle.xp_catalog.specs.declared.why.Why.{Why}
use Rattle.xp_catalog.specs.declared.why.Why.TheVariants as why
use Rattle.xp_catalog.specs.Contents.{Contents}
use Rattle.xp_catalog.specs.Headers.{column_named}
use Rattle.xp_catalog.specs.Spelling.{is_name}
use Rattle.xp_named.specs.Named.{header_type}
use Rattle.xp_rows.specs.declared.fault.RowsFault.{RowsFault}
use Rattle.xp_rows.specs.declared.fault.RowsFault.TheVariants.{Header}
use Rattle.xp_rows.specs.Faults.{and_then}

abbrev pub is_space : ℕ → Bool
is_space b = b == 32

-- what stands before the first space, or all of it
abbrev pub name_in : List ℕ → List ℕ
name_in text = before_first is_space text

-- what isn't ASCII names no type
abbrev pub type_named : Contents → List ℕ → Option TypeNo
type_named c name = cond (list_all is_ascii name) (header_type c name) None

-- by what stands behind the first space, which may be nothing
abbrev pub type_in : Contents → List ℕ → Option TypeNo
type_in c text = type_named c (after_first is_space text)

-- behind columns of other names, of which there may be so many
abbrev pub added : List HeaderColumn → HeaderColumn → Result HeaderColumn Why
added before column =
    cond (is_some (column_named before column.name)) (Err why.Duplicate) (
    cond (nat_lt (length before) COLUMN_LIMIT) (Ok column) (Err why.TooMany))

-- the column that a field names: a name, one space and the name of a type
abbrev pub column_of : Contents → List HeaderColumn → List ℕ → Result HeaderColumn Why
column_of c before text =
    cond (is_name (name_in text)) (option_map_or (λ type. added before (record { name = name_in text; ty = type })) (type_in c text) (Err why.UnknownType)) (Err why.BadName)

-- the column, or why the field of that place in the header names none
abbrev pub named : ℕ → Result HeaderColumn Why → Result HeaderColumn RowsFault
named place (Ok column) = Ok column
named place (Err why) = Err (Header place why)

-- the columns of the fields behind some that are named, from left to right, counted from 1
abbrev pub columns_from : Contents → List HeaderColumn → List (List ℕ) → Result (List HeaderColumn) RowsFault
columns_from c before [] = Ok before
columns_from c before (text ∷ rest) = and_then (named (length before + 1) (column_of c before text)) (λ column. columns_from c (before ++ column ∷ []) rest)

-- the columns of a first record
abbrev pub header_of : Contents → List (List ℕ) → Result (List HeaderColumn) RowsFault
header_of c fields = columns_from c [] fields
