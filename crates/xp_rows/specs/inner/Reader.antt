-- The records that a reader of a text has left.
use Rattle.std.specs.Prelude.{◌≡◌, ℕ, suc, List, [], ◌∷◌, Bool, true, MatchBool, Option, Some, unwrap_or}
use Rattle.std.specs.Borrow.{Bor}
use Rattle.csv.specs.Reading.{Ready, default_config, is_flexible, records_from, source_of}
use Rattle.csv.specs.declared.reader.Reader.{Reader}
use Rattle.csv.specs.declared.reader.Trim.TheVariants as trim
use Rattle.csv.specs.declared.error.ErrorKind.{ErrorKind}
use Rattle.csv.specs.declared.error.ErrorKind.TheVariants as kind
use Rattle.xp_rows.specs.declared.fault.RowsFault.{RowsFault}
use Rattle.xp_rows.specs.declared.fault.RowsFault.TheVariants.{Memory, Unread}

-- the bytes that are left
abbrev pub unread : Reader (Bor (List ℕ)) → Option (List ℕ)
unread reader = source_of (λ s. Some s.now) reader

abbrev pub bytes_left : Reader (Bor (List ℕ)) → List ℕ
bytes_left reader = unwrap_or (unread reader) []

-- it reads records of any length, none of which is skipped
pub record IsOver (reader : Reader (Bor (List ℕ))) : Type 0 where
  pub trim : reader.trim ≡ trim.None
  pub ready : Ready reader
  pub config : reader.config ≡ default_config
  pub flexible : is_flexible reader ≡ true
  pub known : unread reader ≡ Some (bytes_left reader)

-- as many records as n
abbrev pub records_left : ℕ → Reader (Bor (List ℕ)) → List (List (List ℕ))
records_left n reader = records_from default_config n reader.state (bytes_left reader)

-- a record is the next of those that were left, or there were none
abbrev pub TakesNext : Reader (Bor (List ℕ)) → Reader (Bor (List ℕ)) → List (List ℕ) → Bool → Type 0
TakesNext old new fields found =
    (n : ℕ) → MatchBool found (IsOver new × (records_left (suc n) old ≡ fields ∷ records_left n new)) (records_left (suc n) old ≡ [])

-- want of memory is what csv calls so, and nothing else
abbrev pub read_fault : ErrorKind → RowsFault
read_fault kind.OutOfMemory = Memory
read_fault _ = Unread
