-- The records of a text: comma-separated fields by csv's own definition, without a header, of any length.
use Rattle.std.specs.Prelude.{ℕ, ◌^◌, List, [], slice_index_or}
use Rattle.csv.specs.Reading.{default_config, records_from, strip_bom}
use Rattle.csv.specs.declared.error.ErrorKind.{ErrorKind}
use Rattle.csv.specs.declared.error.ErrorKind.TheVariants as kind
use Rattle.csv.specs.declared.parser.State.TheVariants as st
use Rattle.xp_loader.specs.declared.text.ReadFault.{ReadFault}
use Rattle.xp_loader.specs.declared.text.ReadFault.TheVariants.{Unread, Memory}

-- the fields of every record; a text has fewer than 2^64 bytes, and so fewer records
unfoldable pub records_of : List ℕ → List (List (List ℕ))
records_of text = records_from default_config (2 ^ 64) st.StartRecord (strip_bom text)

-- the field at a place, the kind being at 0
abbrev pub field : List (List ℕ) → ℕ → List ℕ
field fields place = slice_index_or fields place []

-- want of memory is what csv calls so, and nothing else
abbrev pub read_fault : ErrorKind → ReadFault
read_fault kind.OutOfMemory = Memory
read_fault _ = Unread
