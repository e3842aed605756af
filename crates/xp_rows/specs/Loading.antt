-- What a text is as a rows file: its header, and the rows behind it up to the first fault (this project's own).
use Rattle.std.specs.Prelude.{ℕ, ◌+◌, List, [], ◌∷◌, Result, Ok}
use Rattle.xp_value.specs.declared.value.Value.{Value}
use Rattle.xp_catalog.specs.declared.header.HeaderColumn.{HeaderColumn}
use Rattle.xp_catalog.specs.Contents.{Contents}
use Rattle.xp_rows.specs.declared.fault.RowsFault.{RowsFault}
use Rattle.xp_rows.specs.Faults.{and_then, followed}
use Rattle.xp_rows.specs.Fields.{row_of}
use Rattle.xp_rows.specs.Headers.{header_of}
use Rattle.xp_rows.specs.Records.{records_of}

-- the rows of the records, the first of which has that number
abbrev pub rows_from : Contents → List HeaderColumn → ℕ → List (List (List ℕ)) → Result (List (List Value)) RowsFault
rows_from c header row [] = Ok []
rows_from c header row (fields ∷ rest) = and_then (row_of c header row fields) (λ values. followed values (rows_from c header (row + 1) rest))

-- no records are no columns and no rows; the first record is the header, and rows count from 1
abbrev pub load : Contents → List (List (List ℕ)) → Result (List HeaderColumn × List (List Value)) RowsFault
load c [] = Ok ([], [])
load c (first ∷ rest) = and_then (header_of c first) (λ header. and_then (rows_from c header 1 rest) (λ rows. Ok (header, rows)))

abbrev pub load_rows : Contents → List ℕ → Result (List HeaderColumn × List (List Value)) RowsFault
load_rows c text = load c (records_of text)
