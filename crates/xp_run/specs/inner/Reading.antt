-- What reading the texts of a run says.
use Rattle.std.specs.Prelude.{◌≡◌, ℕ, List, Option, option_and_then, IfSome, Result, Ok, Err}
use Rattle.xp_base.specs.Outside.{Files, text_at}
use Rattle.xp_catalog.specs.Contents.{Contents}
use Rattle.xp_run.specs.Causes.{Refuses}
use Rattle.xp_run.specs.Inputs.{Names, Table, Texts, inputs_of, table_of, texts_in}
use Rattle.xp_run.specs.declared.ending.Ending.{Ending}
use Rattle.xp_run.specs.declared.ending.Ending.TheVariants.{ReadFault, Memory}
use Rattle.xp_run.specs.declared.inputs.Inputs.{Inputs}

-- the texts say `said`, and reading answers so: a read that failed and want of memory say nothing of the texts
abbrev pub Says : {T : Type 0} → Result T Ending → Result T Ending → Type 0
Says said (Ok x) = said ≡ Ok x
Says said (Err ReadFault) = Unit {0}
Says said (Err Memory) = Unit {0}
Says said (Err end) = said ≡ Err end

-- a text that is told under the name, or that may be held there, and what it says
pub record ReadsText {T : Type 0} (held : Option Files) (name : List ℕ) (said : Option (List ℕ) → Result T Ending) (answer : Result T Ending) : Type 0 where
  pub text : Option (List ℕ)
  pub told : IfSome held (λ files. text ≡ text_at files name)
  pub says : Says (said text) answer

-- the table, by the name of the rows
abbrev pub table_in : Files → Contents → Option (List ℕ) → Result Table Ending
table_in files c name = table_of c name (option_and_then (text_at files) name)

-- the same of the rows, where they are named
pub record ReadsTable (held : Option Files) (c : Contents) (name : Option (List ℕ)) (answer : Result Table Ending) : Type 0 where
  pub text : Option (List ℕ)
  pub told : IfSome held (λ files. text ≡ option_and_then (text_at files) name)
  pub says : Says (table_of c name text) answer

-- the same of all texts
pub record ReadsTexts (held : Option Files) (names : Names) (answer : Result Inputs Ending) : Type 0 where
  pub texts : Texts
  pub told : IfSome held (λ files. texts ≡ texts_in files names)
  pub says : Says (inputs_of names texts) answer

-- what reading answers
abbrev pub Reads : {T : Type 0} → Option Files → (Files → Result T Ending) → Type 0 → Result T Ending → Type 0
Reads held said rose (Ok x) = IfSome held (λ files. said files ≡ Ok x)
Reads held said rose (Err end) = Refuses held said rose end
