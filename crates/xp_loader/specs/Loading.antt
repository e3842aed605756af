-- What a text is as a catalogue: its records one after another, up to the first that breaks a rule (this project's own).
use Rattle.std.specs.Prelude.{ℕ, ◌+◌, List, [], ◌∷◌, Bool, true, false, cond, nat_le, Option, Some, None, Result, Ok, Err}
use Rattle.std.specs.Option.{option_map_or}
use Rattle.xp_base.specs.OrMemory.{OrMemory}
use Rattle.xp_base.specs.declared.limits.TheConstants.{RECORD_LIMIT}
use Rattle.xp_catalog.specs.declared.why.CatFault.{CatFault}
use Rattle.xp_catalog.specs.declared.why.CatFault.TheVariants.{Row, TooManyRows, Unread, Memory}
use Rattle.xp_catalog.specs.declared.why.Why.{Why}
use Rattle.xp_catalog.specs.Contents.{Contents, added, first_contents}
use Rattle.xp_catalog.specs.WellFormed.{IsBuilt}
use Rattle.xp_bodies.specs.Fits.{IsFitted}
use Rattle.xp_loader.specs.Reading.{record_of}
use Rattle.xp_loader.specs.Records.{records_of}
use Rattle.xp_loader.specs.Refusing.{first_broken, rules}

-- the rows with those of a record that keeps the rules
abbrev pub with_record : Contents → ℕ → List (List ℕ) → Contents
with_record before line fields = option_map_or (added before) (record_of before line fields) before

-- the rows behind one record more, of which there may be 20,000
abbrev pub unless_broken : Option Why → ℕ → Contents → Result Contents CatFault
unless_broken None line after = Ok after
unless_broken (Some why) line after = Err (Row line why)

abbrev pub accepted : Contents → ℕ → List (List ℕ) → Result Contents CatFault
accepted before line fields =
    cond (nat_le line RECORD_LIMIT) (unless_broken (first_broken rules before line fields) line (with_record before line fields)) (Err (TooManyRows line))

abbrev pub and_then : Result Contents CatFault → (Contents → Result Contents CatFault) → Result Contents CatFault
and_then (Ok c) onward = onward c
and_then (Err fault) onward = Err fault

-- the records from that line on, behind these rows
abbrev pub load_from : Contents → ℕ → List (List (List ℕ)) → Result Contents CatFault
load_from before line [] = Ok before
load_from before line (fields ∷ rest) = and_then (accepted before line fields) (λ after. load_from after (line + 1) rest)

-- lines count from 1
abbrev pub load_catalog : List ℕ → Result Contents CatFault
load_catalog text = load_from first_contents 1 (records_of text)

-- no fault of the text: there was no memory, or the reader of its bytes failed
abbrev pub is_outside : CatFault → Bool
is_outside (Row line why) = false
is_outside (TooManyRows line) = false
is_outside Unread = true
is_outside Memory = true

-- this answer, or one that is no fault of the text
abbrev pub Loads : Result Contents CatFault → Result Contents CatFault → Type 0
Loads = OrMemory is_outside

-- the rows of that many records, whose functions fit their bodies
pub record IsLoaded (n : ℕ) (c : Contents) : Type 0 where
  pub built : IsBuilt n c
  pub fitted : IsFitted c
