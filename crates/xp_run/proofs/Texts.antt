-- The texts that a run reads: those that are told, or some that may be held.
use Rattle.std.proofs.Common.{◌≡◌, ℕ, zero, suc, ◌+◌, ◌<◌, ◌≤◌, List, [], ◌∷◌, length, Option, None, Some, Result, Ok, Err, false, true, refl, sym, ap, subst, ◌∙◌, arith}
use Rattle.std.specs.Prelude.{IfSome, nat_lt, option_and_then}
use Rattle.std.proofs.lemmas.Bool.Decides.{nat_tests}
use Rattle.xp_base.specs.Outside.{Files, Tells, TellsLonger, text_at}
use Rattle.xp_base.specs.declared.limits.TheConstants.{SCRIPT_LIMIT}
use Rattle.xp_catalog.specs.Contents.{Contents}
use Rattle.xp_base.specs.FromLeft.{and_then}
use Rattle.xp_analyse.specs.Checks.{prepared}
use Rattle.xp_run.specs.Inputs.{Checked, Names, Table, Texts, catalog_of, records_of, table_of, texts_in, with_checks, within}
use Rattle.xp_run.specs.inner.Reading.{ReadsTable, ReadsText, ReadsTexts, Says}
use Rattle.xp_run.specs.declared.ending.Ending.{Ending}
use Rattle.xp_run.specs.declared.ending.Ending.TheVariants.{Done, BadWords, BadCatalog, BadRows, TooLong, ReadFault, WriteFault, Memory}
use Rattle.xp_run.specs.declared.inputs.Inputs.{Inputs}

-- ---- one text

-- the text that is told under the name, or another
abbrev pub text_or : Option Files → List ℕ → Option (List ℕ) → Option (List ℕ)
text_or None name other = other
text_or (Some files) name other = text_at files name

is_told : (held : Option Files) (name : List ℕ) (other : Option (List ℕ)) → IfSome held (λ files. text_or held name other ≡ text_at files name)
is_told None name other = tt
is_told (Some files) name other = refl

within-fits : (limit : ℕ) (text : List ℕ) → length text ≤ limit → within limit (Some text) ≡ Ok text
within-fits limit text h = let e : nat_lt limit (length text) ≡ false = grind (arith, nat_tests) in rw e refl

within-long : (limit : ℕ) (text : List ℕ) → limit < length text → within limit (Some text) ≡ Err (TooLong (limit + 1))
within-long limit text h = let e : nat_lt limit (length text) ≡ true = grind (arith, nat_tests) in rw e refl

-- a text of that many bytes
abbrev pub zeros : ℕ → List ℕ
zeros zero = []
zeros (suc n) = 0 ∷ zeros n

zeros-length : (n : ℕ) → length (zeros n) ≡ n
zeros-length zero = refl
zeros-length (suc n) = ap suc (zeros-length n)

fits : (held : Option Files) (name : List ℕ) (limit : ℕ) (text : List ℕ) → Tells held name text → length text ≤ limit → within limit (text_or held name (Some text)) ≡ Ok text
fits None name limit text t h = within-fits limit text h
fits (Some files) name limit text t h = ap (within limit) t ∙ within-fits limit text h

long : (held : Option Files) (name : List ℕ) (limit : ℕ) → TellsLonger held name limit → within limit (text_or held name (Some (zeros (limit + 1)))) ≡ Err (TooLong (limit + 1))
long None name limit t = let e : length (zeros (limit + 1)) ≡ limit + 1 = zeros-length (limit + 1) in within-long limit (zeros (limit + 1)) (omega (arith, e))
long (Some files) name limit t = ap (within limit) t.1 ∙ within-long limit t.0 t.2

pub reads_whole : (held : Option Files) (name : List ℕ) (limit : ℕ) (text : List ℕ) → Tells held name text → length text ≤ limit → ReadsText held name (within limit) (Ok text)
reads_whole held name limit text t h = record { text = text_or held name (Some text); told = is_told held name (Some text); says = fits held name limit text t h }

pub reads_long : (held : Option Files) (name : List ℕ) (limit read : ℕ) → TellsLonger held name limit → read ≡ limit + 1 → ReadsText held name (within limit) (Err (TooLong read))
reads_long held name limit read t e = record {
  text = text_or held name (Some (zeros (limit + 1)));
  told = is_told held name (Some (zeros (limit + 1)));
  says = long held name limit t ∙ ap (λ n. Err (TooLong n)) (sym e);
}

pub reads_failed : {T : Type 0} (held : Option Files) (name : List ℕ) (said : Option (List ℕ) → Result T Ending) → ReadsText held name said (Err ReadFault)
reads_failed held name said = record { text = text_or held name None; told = is_told held name None; says = tt }

pub reads_memory : {T : Type 0} (held : Option Files) (name : List ℕ) (said : Option (List ℕ) → Result T Ending) → ReadsText held name said (Err Memory)
reads_memory held name said = record { text = text_or held name None; told = is_told held name None; says = tt }

-- the same texts are told later
pub text_held : {T : Type 0} (held other : Option Files) (name : List ℕ) (said : Option (List ℕ) → Result T Ending) (answer : Result T Ending) → held ≡ other → ReadsText held name said answer → ReadsText other name said answer
text_held held other name said answer e r = subst (λ (h : Option Files). ReadsText h name said answer) e r

pub table_held : (held other : Option Files) (c : Contents) (name : Option (List ℕ)) (answer : Result Table Ending) → held ≡ other → ReadsTable held c name answer → ReadsTable other c name answer
table_held held other c name answer e r = subst (λ (h : Option Files). ReadsTable h c name answer) e r

-- ---- what is made of a text

Says-stops : {T U : Type 0} (said : Result T Ending) (f : T → Result U Ending) (end : Ending) → Says said (Err end) → Says (and_then said f) (Err end)
Says-stops said f (Done steps) h = ap (λ s. and_then s f) h
Says-stops said f BadWords h = ap (λ s. and_then s f) h
Says-stops said f (BadCatalog line why) h = ap (λ s. and_then s f) h
Says-stops said f (BadRows fault) h = ap (λ s. and_then s f) h
Says-stops said f (TooLong read) h = ap (λ s. and_then s f) h
Says-stops said f ReadFault h = tt
Says-stops said f WriteFault h = ap (λ s. and_then s f) h
Says-stops said f Memory h = tt

Says-by : {T : Type 0} (said other : Result T Ending) (answer : Result T Ending) → said ≡ other → Says other answer → Says said answer
Says-by said other answer e h = rw e h

pub text_stops : {U : Type 0} (held : Option Files) (name : List ℕ) (limit : ℕ) (f : List ℕ → Result U Ending) (end : Ending) → ReadsText held name (within limit) (Err end) → ReadsText held name (λ text. and_then (within limit text) f) (Err end)
text_stops held name limit f end r = record { text = r.text; told = r.told; says = Says-stops (within limit r.text) f end r.says }

pub text_then : {U : Type 0} (held : Option Files) (name : List ℕ) (limit : ℕ) (f : List ℕ → Result U Ending) (text : List ℕ) (answer : Result U Ending) → ReadsText held name (within limit) (Ok text) → Says (f text) answer → ReadsText held name (λ t. and_then (within limit t) f) answer
text_then held name limit f text answer r s = record { text = r.text; told = r.told; says = Says-by _ (f text) answer (ap (λ w. and_then w f) r.says) s }

-- the checks of a catalogue's records
pub records_stop : (held : Option Files) (name : List ℕ) (end : Ending) → ReadsText held name records_of (Err end) → ReadsText held name catalog_of (Err end)
records_stop held name end r = record { text = r.text; told = r.told; says = Says-stops (records_of r.text) (λ contents. with_checks contents (prepared contents)) end r.says }

pub records_then : (held : Option Files) (name : List ℕ) (contents : Contents) (answer : Result Checked Ending) → ReadsText held name records_of (Ok contents) → Says (with_checks contents (prepared contents)) answer → ReadsText held name catalog_of answer
records_then held name contents answer r s =
    record { text = r.text; told = r.told; says = Says-by _ (with_checks contents (prepared contents)) answer (ap (λ w. and_then w (λ c. with_checks c (prepared c))) r.says) s }

-- ---- all texts

-- the rows that are told under a name, where there is one, or another text
abbrev pub rows_or : Option Files → Option (List ℕ) → Option (List ℕ) → Option (List ℕ)
rows_or None name other = other
rows_or (Some files) name other = option_and_then (text_at files) name

rows_told : (held : Option Files) (name other : Option (List ℕ)) → IfSome held (λ files. rows_or held name other ≡ option_and_then (text_at files) name)
rows_told None name other = tt
rows_told (Some files) name other = refl

all_told : (held : Option Files) (names : Names) (catalog script rows : Option (List ℕ)) → IfSome held (λ files. catalog ≡ text_at files names.catalog) → IfSome held (λ files. script ≡ text_at files names.script)
    → IfSome held (λ files. rows ≡ option_and_then (text_at files) names.rows) → IfSome held (λ files. record { catalog = catalog; script = script; rows = rows } ≡ texts_in files names)
all_told None names catalog script rows c s r = tt
all_told (Some files) names catalog script rows c s r = rw (c, s, r) refl

abbrev pub made : Checked → List ℕ → Table → Result Inputs Ending
made catalog script table = Ok (record { catalog = catalog.0; checks = catalog.1; script = script; header = table.0; rows = table.1 })

abbrev pub behind_script : Names → Option (List ℕ) → Checked → List ℕ → Result Inputs Ending
behind_script names rows catalog script = and_then (table_of catalog.0 names.rows rows) (made catalog script)

abbrev pub behind_catalog : Names → Texts → Checked → Result Inputs Ending
behind_catalog names texts catalog = and_then (within SCRIPT_LIMIT texts.script) (behind_script names texts.rows catalog)

-- the catalogue's text stops the reading, whatever the others are
pub texts_stop : (held : Option Files) (names : Names) (end : Ending) → ReadsText held names.catalog catalog_of (Err end) → ReadsTexts held names (Err end)
texts_stop held names end r =
    let texts : Texts = record { catalog = r.text; script = text_or held names.script None; rows = rows_or held names.rows None } in
    record {
      texts = texts;
      told = all_told held names r.text (text_or held names.script None) (rows_or held names.rows None) r.told (is_told held names.script None) (rows_told held names.rows None);
      says = Says-stops (catalog_of r.text) (behind_catalog names texts) end r.says;
    }

pub texts_script : (held : Option Files) (names : Names) (catalog : Checked) (end : Ending) → ReadsText held names.catalog catalog_of (Ok catalog) → ReadsText held names.script (within SCRIPT_LIMIT) (Err end) → ReadsTexts held names (Err end)
texts_script held names catalog end c s =
    let texts : Texts = record { catalog = c.text; script = s.text; rows = rows_or held names.rows None } in
    record {
      texts = texts;
      told = all_told held names c.text s.text (rows_or held names.rows None) c.told s.told (rows_told held names.rows None);
      says = Says-by _ _ (Err end) (ap (λ r. and_then r (behind_catalog names texts)) c.says) (Says-stops (within SCRIPT_LIMIT s.text) (behind_script names texts.rows catalog) end s.says);
    }

pub texts_table : (held : Option Files) (names : Names) (catalog : Checked) (script : List ℕ) (end : Ending) → ReadsText held names.catalog catalog_of (Ok catalog) → ReadsText held names.script (within SCRIPT_LIMIT) (Ok script)
    → ReadsTable held catalog.0 names.rows (Err end) → ReadsTexts held names (Err end)
texts_table held names catalog script end c s r =
    let texts : Texts = record { catalog = c.text; script = s.text; rows = r.text } in
    record {
      texts = texts;
      told = all_told held names c.text s.text r.text c.told s.told r.told;
      says = Says-by _ _ (Err end) (ap (λ x. and_then x (behind_catalog names texts)) c.says ∙ ap (λ x. and_then x (behind_script names r.text catalog)) s.says) (Says-stops (table_of catalog.0 names.rows r.text) (made catalog script) end r.says);
    }

pub texts_whole : (held : Option Files) (names : Names) (catalog : Checked) (script : List ℕ) (table : Table) → ReadsText held names.catalog catalog_of (Ok catalog) → ReadsText held names.script (within SCRIPT_LIMIT) (Ok script)
    → ReadsTable held catalog.0 names.rows (Ok table) → ReadsTexts held names (made catalog script table)
texts_whole held names catalog script table c s r =
    let texts : Texts = record { catalog = c.text; script = s.text; rows = r.text } in
    record {
      texts = texts;
      told = all_told held names c.text s.text r.text c.told s.told r.told;
      says = ap (λ x. and_then x (behind_catalog names texts)) c.says ∙ ap (λ x. and_then x (behind_script names r.text catalog)) s.says ∙ ap (λ x. and_then x (made catalog script)) r.says;
    }

-- ---- the rows

pub table_none : (held : Option Files) (c : Contents) (table : Table) → table ≡ ([], [] ∷ []) → ReadsTable held c None (Ok table)
table_none held c table e = record { text = rows_or held None None; told = rows_told held None None; says = ap Ok (sym e) }

pub table_memory : (held : Option Files) (c : Contents) (name : Option (List ℕ)) → ReadsTable held c name (Err Memory)
table_memory held c name = record { text = rows_or held name None; told = rows_told held name None; says = tt }

pub table_some : (held : Option Files) (c : Contents) (name : List ℕ) (answer : Result Table Ending) → ReadsText held name (table_of c (Some name)) answer → ReadsTable held c (Some name) answer
table_some held c name answer r = record { text = r.text; told = r.told; says = r.says }
