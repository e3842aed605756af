-- The records of a text: comma-separated fields by csv's own definition, of any length (the format is the csv crate's).
use Rattle.std.specs.Prelude.{ℕ, ◌^◌, List, [], slice_index_or}
use Rattle.csv.specs.Reading.{default_config, records_from, strip_bom}
use Rattle.csv.specs.declared.parser.State.TheVariants as st

-- the fields of every record behind a byte-order mark; a text has fewer than 2^64 bytes, and so fewer records
unfoldable pub records_of : List ℕ → List (List (List ℕ))
records_of text = records_from default_config (2 ^ 64) st.StartRecord (strip_bom text)

-- the field at a place, counted from 0
abbrev pub field : List (List ℕ) → ℕ → List ℕ
field fields place = slice_index_or fields place []
