-- The texts that a run reads, in the order in which they are looked at: the first that isn't in order names the ending.
use Rattle.std.specs.Prelude.{ℕ, ◌+◌, List, [], ◌∷◌, cond, codes, length, nat_lt, Option, Some, None, option_and_then, Result, Ok, Err}
use Rattle.std.specs.Str.{bytes_eq}
use Rattle.xp_base.specs.Outside.{Files, text_at}
use Rattle.xp_base.specs.declared.limits.TheConstants.{CATALOG_LIMIT, ROWS_LIMIT, SCRIPT_LIMIT}
use Rattle.xp_value.specs.declared.value.Value.{Value}
use Rattle.xp_catalog.specs.Contents.{Contents}
use Rattle.xp_catalog.specs.declared.header.HeaderColumn.{HeaderColumn}
use Rattle.xp_catalog.specs.declared.why.CatFault.{CatFault}
use Rattle.xp_catalog.specs.declared.why.CatFault.TheVariants as fault
use Rattle.xp_catalog.specs.declared.why.Why.TheVariants as why
use Rattle.xp_analyse.specs.declared.fault.CheckFault.{CheckFault}
use Rattle.xp_analyse.specs.declared.fault.CheckFault.TheVariants as check_fault
use Rattle.xp_analyse.specs.Checks.{prepared}
use Rattle.xp_loader.specs.Loading.{load_catalog}
use Rattle.xp_rows.specs.declared.fault.RowsFault.{RowsFault}
use Rattle.xp_rows.specs.Faults.{is_outside}
use Rattle.xp_rows.specs.Loading.{load_rows}
use Rattle.xp_base.specs.FromLeft.{and_then}
use Rattle.xp_tree.specs.declared.checks.DomainCheck.{DomainCheck}
use Rattle.xp_run.specs.declared.ending.Ending.{Ending}
use Rattle.xp_run.specs.declared.ending.Ending.TheVariants.{BadCatalog, BadRows, TooLong, ReadFault, Memory}
use Rattle.xp_run.specs.declared.inputs.Inputs.{Inputs}

-- the names of a run's texts; there may be no rows file
pub record Names : Type 0 where
  pub catalog : List ℕ
  pub script : List ℕ
  pub rows : Option (List ℕ)

-- where the command is `run`
abbrev pub if_run : List ℕ → Names → Option Names
if_run command names = cond (bytes_eq command (codes "run")) (Some names) None

-- the names, where the words are `run CATALOG SCRIPT` or `run CATALOG SCRIPT ROWS`
abbrev pub named : List (List ℕ) → Option Names
named (command ∷ catalog ∷ script ∷ []) = if_run command (record { catalog = catalog; script = script; rows = None })
named (command ∷ catalog ∷ script ∷ rows ∷ []) = if_run command (record { catalog = catalog; script = script; rows = Some rows })
named _ = None

-- the texts under the names, where there are any
pub record Texts : Type 0 where
  pub catalog : Option (List ℕ)
  pub script : Option (List ℕ)
  pub rows : Option (List ℕ)

abbrev pub texts_in : Files → Names → Texts
texts_in files names = record {
  catalog = text_at files names.catalog;
  script = text_at files names.script;
  rows = option_and_then (text_at files) names.rows;
}

-- a text that is there and not too long
abbrev pub within : ℕ → Option (List ℕ) → Result (List ℕ) Ending
within limit None = Err ReadFault
within limit (Some text) = cond (nat_lt limit (length text)) (Err (TooLong (limit + 1))) (Ok text)

-- ---- the catalogue

abbrev pub loaded : Result Contents CatFault → Result Contents Ending
loaded (Ok contents) = Ok contents
loaded (Err (fault.Row line cause)) = Err (BadCatalog line cause)
loaded (Err (fault.TooManyRows line)) = Err (BadCatalog line why.TooMany)
loaded (Err fault.Unread) = Err Memory
loaded (Err fault.Memory) = Err Memory

abbrev pub records_of : Option (List ℕ) → Result Contents Ending
records_of text = and_then (within CATALOG_LIMIT text) (λ bytes. loaded (load_catalog bytes))

-- a catalogue, and the checks of its domains
abbrev pub Checked : Type 0
Checked = Contents × List DomainCheck

-- a check that is refused is the fault of its domain's record
abbrev pub with_checks : Contents → Result (List DomainCheck) CheckFault → Result Checked Ending
with_checks contents (Ok checks) = Ok (contents, checks)
with_checks contents (Err (check_fault.BadCheck line)) = Err (BadCatalog line why.BadCheck)
with_checks contents (Err check_fault.Memory) = Err Memory

-- the records, and then the checks
abbrev pub catalog_of : Option (List ℕ) → Result Checked Ending
catalog_of text = and_then (records_of text) (λ contents. with_checks contents (prepared contents))

-- ---- the rows

-- columns, and rows over them
abbrev pub Table : Type 0
Table = List HeaderColumn × List (List Value)

-- without a rows file there is one row without columns
abbrev pub no_columns : Table
no_columns = ([], [] ∷ [])

abbrev pub rows_loaded : Result Table RowsFault → Result Table Ending
rows_loaded (Ok table) = Ok table
rows_loaded (Err fault) = Err (cond (is_outside fault) Memory (BadRows fault))

-- over a catalogue, by the name of the rows and the text under it
abbrev pub table_of : Contents → Option (List ℕ) → Option (List ℕ) → Result Table Ending
table_of c None text = Ok no_columns
table_of c (Some name) text = and_then (within ROWS_LIMIT text) (λ bytes. rows_loaded (load_rows c bytes))

-- ---- all of them

-- the catalogue, the script and the rows, or the ending that names the first fault
abbrev pub inputs_of : Names → Texts → Result Inputs Ending
inputs_of names texts =
    and_then (catalog_of texts.catalog) (λ catalog.
    and_then (within SCRIPT_LIMIT texts.script) (λ script.
    and_then (table_of catalog.0 names.rows texts.rows) (λ table.
    Ok (record { catalog = catalog.0; checks = catalog.1; script = script; header = table.0; rows = table.1 }))))

abbrev pub inputs_in : Files → Names → Result Inputs Ending
inputs_in files names = inputs_of names (texts_in files names)
