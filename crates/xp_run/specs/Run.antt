-- What a run says: its output, its steps, what each ending leaves, and the status.
use Rattle.std.specs.Prelude.{◌≡◌, ℕ, ◌-◌, ◌^◌, List, [], Bool, true, min, Option, Some, None, IfSome, IsOk, Result, Ok, Err}
use Rattle.xp_base.specs.Growth.{grown, GrowsWithin}
use Rattle.xp_base.specs.Outside.{Files}
use Rattle.xp_run.specs.Inputs.{Names, Texts, inputs_of, texts_in}
use Rattle.xp_run.specs.Report.{all_ok, report, steps_in, text_of}
use Rattle.xp_run.specs.Status.{status_of}
use Rattle.xp_run.specs.declared.ending.Exit.{Exit}
use Rattle.xp_run.specs.declared.ending.Ending.{Ending}
use Rattle.xp_run.specs.declared.ending.Ending.TheVariants.{Done, BadWords, BadCatalog, BadRows, TooLong, ReadFault, WriteFault, Memory}
use Rattle.xp_run.specs.declared.inputs.Inputs.{Inputs}

-- what the words say of the texts: the catalogue, the script and the rows, or the ending of the first fault
abbrev pub read_by : Option Names → Texts → Result Inputs Ending
read_by None texts = Err BadWords
read_by (Some names) texts = inputs_of names texts

-- what is written of texts that are in order, and of no others
abbrev pub output : Result Inputs Ending → List ℕ
output (Ok inputs) = text_of (report inputs)
output (Err fault) = []

-- every block's last line says `ok`
abbrev pub is_fine_run : Result Inputs Ending → Bool
is_fine_run (Ok inputs) = all_ok (report inputs)
is_fine_run (Err fault) = true

-- how many machine steps the statements take
abbrev pub steps : Result Inputs Ending → ℕ
steps (Ok inputs) = steps_in (report inputs)
steps (Err fault) = 0

-- the texts are in order, and the whole output is written
pub record IsDone (old new : Option (List ℕ)) (read : Result Inputs Ending) (counted : ℕ) : Type 0 where
  pub in_order : IsOk read
  pub written : new ≡ grown old (output read)
  pub steps : counted ≡ min (steps read) (2 ^ 64 - 1)

-- the texts are in order, and a prefix of the output is written
pub record IsCutOff (old new : Option (List ℕ)) (read : Result Inputs Ending) : Type 0 where
  pub in_order : IsOk read
  pub written : GrowsWithin old new (output read)

-- this ending is that of the first fault, and nothing is written
pub record IsRefused (old new : Option (List ℕ)) (read : Result Inputs Ending) (end : Ending) : Type 0 where
  pub fault : read ≡ Err end
  pub unwritten : new ≡ old

-- what each ending says of the texts, and what it leaves in the sink
abbrev pub Leaves : Option (List ℕ) → Option (List ℕ) → Result Inputs Ending → Ending → Type 0
Leaves old new read (Done counted) = IsDone old new read counted
Leaves old new read WriteFault = IsCutOff old new read
Leaves old new read Memory = GrowsWithin old new (output read)
Leaves old new read BadWords = IsRefused old new read BadWords
Leaves old new read (BadCatalog line why) = IsRefused old new read (BadCatalog line why)
Leaves old new read (BadRows fault) = IsRefused old new read (BadRows fault)
Leaves old new read (TooLong bytes) = IsRefused old new read (TooLong bytes)
Leaves old new read ReadFault = new ≡ old

-- the texts of the run, which are those that the shelf tells, or some that it may have held; what is written of them; and the status
pub record Reports (held : Option Files) (names : Option Names) (old new : Option (List ℕ)) (exit : Exit) : Type 0 where
  pub texts : Texts
  pub told : IfSome held (λ files. IfSome names (λ n. texts ≡ texts_in files n))
  pub leaves : Leaves old new (read_by names texts) exit.end
  pub status : exit.status ≡ status_of (is_fine_run (read_by names texts)) exit.end
