-- The columns of a rows file (this project's own).
use Rattle.std.specs.Prelude.{◌≡◌, ℕ, List, Bool, false, Option}
use Rattle.std.specs.List.{AllPairs, position}
use Rattle.std.specs.Str.{bytes_eq}
use Rattle.xp_catalog.specs.declared.header.HeaderColumn.{HeaderColumn}

abbrev pub is_column : List ℕ → HeaderColumn → Bool
is_column name column = bytes_eq column.name name

-- the place of the column of that name
abbrev pub column_named : List HeaderColumn → List ℕ → Option ℕ
column_named columns name = position (is_column name) columns

-- no two columns have one name
abbrev pub HasOwnNames : List HeaderColumn → Type 0
HasOwnNames columns = AllPairs (λ first second. is_column second.name first ≡ false) columns
