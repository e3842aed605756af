-- What a read takes off the records that a reader has left.
use Rattle.std.proofs.Common.{◌≡◌, ℕ, zero, suc, List, [], ◌∷◌, Bool, true, false, Option, Some, None, Bor, get_or, refl, ap, ◌∙◌}
use Rattle.std.specs.Option.{unwrap_or}
use Rattle.csv.specs.Machine.{next_record}
use Rattle.csv.specs.Reading.{Reached, ReadRecord, Ready, default_config, is_flexible, records_from}
use Rattle.csv.specs.Records.{field_at}
use Rattle.csv.specs.declared.reader.Reader.{Reader}
use Rattle.csv.specs.declared.parser.State.{State}
use Rattle.csv.proofs.ReadFacts.{rows-end, rows-more}
use Rattle.csv.specs.declared.error.ErrorKind.{ErrorKind}
use Rattle.csv.specs.declared.error.ErrorKind.TheVariants as kind
use Rattle.xp_rows.specs.Faults.{is_outside}
use Rattle.xp_rows.specs.inner.Reader.{IsOver, TakesNext, bytes_left, read_fault, unread}

-- the field at a place, by csv's word and by the list's
pub unwrap_or-field_at : (fields : List (List ℕ)) (place : ℕ) → unwrap_or (field_at fields place) [] ≡ get_or fields place []
unfolding field_at
unwrap_or-field_at [] place = refl
unwrap_or-field_at (x ∷ xs) zero = refl
unwrap_or-field_at (x ∷ xs) (suc place) = unwrap_or-field_at xs place

abbrev source : Bor (List ℕ) → Option (List ℕ)
source s = Some s.now

known_left : (reader : Reader (Bor (List ℕ))) (z : List ℕ) → unread reader ≡ Some z → z ≡ bytes_left reader
known_left reader z e = rw e refl

-- one record and the rest
one-more : (n : ℕ) (s t : State) (xs ys : List ℕ) (fields : List (List ℕ)) → Reached default_config s xs (fields ∷ []) t ys → records_from default_config (suc n) s xs ≡ fields ∷ records_from default_config n t ys
unfolding Reached records_from
one-more n s t xs ys fields reached = rw (reached.1, reached.2, reached.3.0, reached.3.1) refl

no-more : (n : ℕ) (s : State) (xs : List ℕ) → next_record default_config s [] [] xs ≡ None → records_from default_config (suc n) s xs ≡ []
unfolding records_from
no-more n s xs none = rw none refl

start : (s : State) (xs : List ℕ) → Reached default_config s xs [] s xs
unfolding Reached
start s xs = (refl, refl)

takes-one : (old new : Reader (Bor (List ℕ))) (fields : List (List ℕ)) → IsOver old → ReadRecord source old new true fields → Ready new → is_flexible new ≡ is_flexible old → TakesNext old new fields true
takes-one old new fields over read ready flexible n =
    let more = rows-more source old new fields default_config old.state (bytes_left old) (bytes_left old) [] over.config over.known (start old.state (bytes_left old)) read in
    let left = known_left new more.0 more.1 in (
      record { trim = read.3 ∙ over.trim; ready = ready; config = read.2 ∙ over.config; flexible = flexible ∙ over.flexible; known = more.1 ∙ ap Some left },
      rw (← left) (one-more n old.state new.state (bytes_left old) more.0 fields more.2),
    )

takes-none : (old new : Reader (Bor (List ℕ))) (fields : List (List ℕ)) → IsOver old → ReadRecord source old new false fields → TakesNext old new fields false
takes-none old new fields over read n = no-more n old.state (bytes_left old) (rows-end source old new fields default_config (bytes_left old) over.config over.known read)

pub takes : (old new : Reader (Bor (List ℕ))) (fields : List (List ℕ)) (found : Bool) → IsOver old → ReadRecord source old new found fields → Ready new → is_flexible new ≡ is_flexible old → TakesNext old new fields found
takes old new fields true over read ready flexible = takes-one old new fields over read ready flexible
takes old new fields false over read ready flexible = takes-none old new fields over read

-- a fault of csv is none of the text's
pub read_fault-outside : (k : ErrorKind) → is_outside (read_fault k) ≡ true
read_fault-outside (kind.Io e) = refl
read_fault-outside kind.OutOfMemory = refl
read_fault-outside (kind.UnequalLengths pos expected len) = refl
read_fault-outside (kind.Utf8 pos err) = refl
read_fault-outside (kind.Serialize text) = refl
read_fault-outside (kind.Deserialize pos err) = refl
