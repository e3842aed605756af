-- A reader of records of any length fails of itself or of memory alone.
use Rattle.std.proofs.Common.{◌≡◌, ℕ, List, true, false, Option, refl}
use Rattle.csv.specs.Reading.{ExplainsRead, is_flexible, stops_reader}
use Rattle.csv.specs.declared.error.ErrorKind.{ErrorKind}
use Rattle.csv.specs.declared.error.ErrorKind.TheVariants as kind
use Rattle.csv.specs.declared.reader.Reader.{Reader}

pub stops-reading : {R : Type 0} (rem : R → Option (List ℕ)) (old new : Reader R) (k : ErrorKind) → is_flexible old ≡ true → ExplainsRead rem old new false k → stops_reader k ≡ true
stops-reading rem old new (kind.Io e) flexible why = refl
stops-reading rem old new kind.OutOfMemory flexible why = refl
stops-reading rem old new (kind.UnequalLengths pos expected len) flexible why = let no = why.0 in cc (flexible, no)
stops-reading rem old new (kind.Utf8 pos err) flexible why = let no : false ≡ true = why.0 in cc no
stops-reading rem old new (kind.Serialize text) flexible why = absurd why
stops-reading rem old new (kind.Deserialize pos err) flexible why = absurd why
