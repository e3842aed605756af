-- The rules of a record in their order, and the first that it breaks (this project's own).
use Rattle.std.specs.Prelude.{ℕ, List, [], ◌∷◌, ◌++◌, Bool, true, false, ◌==◌, ◌&&◌, ◌||◌, cond, length, is_some, Option, Some, None, Result, Ok, Err, codes}
use Rattle.std.specs.Option.{option_map_or}
use Rattle.std.specs.Str.{bytes_eq}
use Rattle.xp_base.specs.OrMemory.{OrMemory}
use Rattle.xp_catalog.specs.declared.why.Why.{Why}
use Rattle.xp_catalog.specs.declared.why.Why.TheVariants as why
use Rattle.xp_catalog.specs.declared.record.Record.{Record}
use Rattle.xp_catalog.specs.declared.record.Record.TheVariants as row
use Rattle.xp_catalog.specs.Contents.{Contents}
use Rattle.xp_catalog.specs.Rules.{has_function, has_good_args, has_good_base, is_category, is_new, is_spelled}
use Rattle.xp_catalog.specs.Spelling.{is_among, is_flag}
use Rattle.xp_bodies.specs.Fits.{fits}
use Rattle.xp_catalog.specs.declared.record.RecordKind.{RecordKind}
use Rattle.xp_catalog.specs.declared.record.RecordKind.TheVariants as kind
use Rattle.xp_loader.specs.declared.record.Refusal.{Refusal}
use Rattle.xp_loader.specs.declared.record.Refusal.TheVariants.{Broken, Memory}
use Rattle.xp_loader.specs.Reading.{body_of, kind_of, record_of}
use Rattle.xp_loader.specs.Records.{field}

-- ---- rules on the fields alone

-- the kind's own field counts
abbrev pub field_count : RecordKind → ℕ
field_count kind.Plain = 4
field_count kind.Range = 3
field_count kind.Domain = 5
field_count kind.Cast = 5
field_count kind.Function = 8
field_count kind.Operator = 5

abbrev pub has_fields : RecordKind → List (List ℕ) → Bool
has_fields form fields = length fields == field_count form

-- the record's own name
abbrev pub is_named : RecordKind → List (List ℕ) → Bool
is_named form fields = is_spelled form (field fields 1)

abbrev pub is_volatility : List ℕ → Bool
is_volatility = is_among (codes "immutable" ∷ codes "stable" ∷ codes "volatile" ∷ [])

abbrev pub has_flags : RecordKind → List (List ℕ) → Bool
has_flags kind.Plain fields = is_flag (field fields 3)
has_flags kind.Domain fields = is_flag (field fields 3)
has_flags kind.Function fields = is_flag (field fields 3) && is_volatility (field fields 5) && is_flag (field fields 6)
has_flags _ fields = true

abbrev pub has_category : RecordKind → List (List ℕ) → Bool
has_category form fields = is_category form (field fields 1) (field fields 2)

abbrev pub is_context : List ℕ → Bool
is_context = is_among (codes "implicit" ∷ codes "assignment" ∷ codes "explicit" ∷ [])

abbrev pub has_context : RecordKind → List (List ℕ) → Bool
has_context kind.Cast fields = is_context (field fields 3)
has_context _ fields = true

abbrev pub is_body : List ℕ → Bool
is_body word = bytes_eq word (codes "none") || is_some (body_of word)

abbrev pub names_body : RecordKind → List (List ℕ) → Bool
names_body kind.Function fields = is_body (field fields 7)
names_body _ fields = true

-- ---- rules on what a record adds

abbrev pub fits_body : Contents → Record → Bool
fits_body c (row.Function func) = fits c func
fits_body c _ = true

-- ---- all rules

-- a word, and what a record of that line keeps against the rows before it
pub record Rule : Type 0 where
  pub why : Why
  pub keeps : Contents → ℕ → List (List ℕ) → Bool

abbrev pub on_fields : Why → (RecordKind → List (List ℕ) → Bool) → Rule
on_fields why keeps = record { why = why; keeps = λ c line fields. option_map_or (λ form. keeps form fields) (kind_of (field fields 0)) false }

abbrev pub on_record : Why → (Contents → Record → Bool) → Rule
on_record why keeps = record { why = why; keeps = λ c line fields. option_map_or (keeps c) (record_of c line fields) false }

-- what is looked at in the fields alone; a record has a kind
abbrev pub form_rules : List Rule
form_rules =
    on_fields why.BadKind (λ form fields. true)
    ∷ on_fields why.FieldCount has_fields
    ∷ on_fields why.BadName is_named
    ∷ on_fields why.BadFlag has_flags
    ∷ on_fields why.BadCategory has_category
    ∷ on_fields why.BadContext has_context
    ∷ []

-- what is looked at against the rows before; where a type isn't there, there is no record
abbrev pub row_rules : List Rule
row_rules =
    on_record why.UnknownType (λ c r. true)
    ∷ on_record why.Duplicate is_new
    ∷ on_record why.BadBase has_good_base
    ∷ on_record why.BadArgs has_good_args
    ∷ on_fields why.UnknownBody names_body
    ∷ on_record why.UnknownFunction has_function
    ∷ on_record why.BodyMismatch fits_body
    ∷ []

abbrev pub rules : List Rule
rules = form_rules ++ row_rules

-- the first rule of a list that the record breaks
abbrev pub first_broken : List Rule → Contents → ℕ → List (List ℕ) → Option Why
first_broken [] c line fields = None
first_broken (rule ∷ more) c line fields = cond (rule.keeps c line fields) (first_broken more c line fields) (Some rule.why)

-- what is read of a record: the rule that it breaks, or what it adds, which is there where it breaks none
abbrev pub judged : Option Why → Option Record → Result Record Refusal
judged (Some why) said = Err (Broken why)
judged None (Some r) = Ok r
judged None None = Err Memory

abbrev pub is_memory : Refusal → Bool
is_memory (Broken why) = false
is_memory Memory = true

-- this is read, or there was no memory
abbrev pub Reads : Result Record Refusal → Result Record Refusal → Type 0
Reads = OrMemory is_memory
