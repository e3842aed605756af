-- What a record says keeps the rules that its fields keep.
use Rattle.std.proofs.Common.{◌≡◌, ℕ, List, [], ◌∷◌, ◌++◌, Bool, true, false, cond, ◌==◌, Option, Some, None, length, refl, subst, ◌∙◌}
use Rattle.std.specs.Prelude.{IfSome, slice_index}
use Rattle.std.specs.Option.{option_map_or}
use Rattle.std.specs.List.{list_all}
use Rattle.std.proofs.lemmas.Bool.{and_from, and_parts}
use Rattle.xp_catalog.specs.declared.record.Record.{Record}
use Rattle.xp_catalog.specs.declared.record.Record.TheVariants as row
use Rattle.xp_catalog.specs.declared.why.Why.{Why}
use Rattle.xp_catalog.specs.Contents.{Contents}
use Rattle.xp_catalog.specs.Rules.{has_function, has_good_args, has_good_base, has_good_category, has_good_name, has_known_types, is_known, is_new, keeps_rules}
use Rattle.xp_catalog.specs.Spelling.{is_letter_of}
use Rattle.xp_catalog.specs.declared.record.RecordKind.{RecordKind}
use Rattle.xp_catalog.specs.declared.record.RecordKind.TheVariants as kind
use Rattle.xp_loader.specs.Reading.{arg_names, cast_row, function_row, is_set, kind_of, left_of, operator_row, record_as, record_of, type_of, types_of}
use Rattle.xp_loader.specs.Records.{field}
use Rattle.xp_loader.specs.Refusing.{Rule, first_broken, fits_body, form_rules, has_category, is_named, rules}
use Rattle.xp_loader.proofs.KnownNames.{HasFirst, if_both, if_mapped, left_known, operands_known, type_known, types_known}

pub record Said (c : Contents) (form : RecordKind) (fields : List (List ℕ)) (r : Record) : Type 0 where
  pub name : has_good_name r ≡ is_named form fields
  pub category : has_category form fields ≡ true → has_good_category r ≡ true
  pub types : has_known_types c r ≡ true

said : (c : Contents) → HasFirst c.types → (form : RecordKind) (line : ℕ) (fields : List (List ℕ)) → IfSome (record_as form c line fields) (Said c form fields)
said c first kind.Plain line fields =
    record { name = refl; category = λ h. (and_parts (length (field fields 2) == 1) (is_letter_of (field fields 1) (slice_index (field fields 2) 0)) h).1; types = refl }
said c first kind.Range line fields =
    if_mapped (type_of c (field fields 2)) (λ subtype. row.Range (field fields 1) subtype line) (λ type. is_known c type ≡ true) (Said c kind.Range fields)
    (type_known c first (field fields 2)) (λ type h. record { name = refl; category = λ _. refl; types = h })
said c first kind.Domain line fields =
    if_mapped (type_of c (field fields 2)) (λ base. row.Domain (field fields 1) base (is_set (field fields 3)) (field fields 4) line) (λ type. is_known c type ≡ true) (Said c kind.Domain fields)
    (type_known c first (field fields 2)) (λ type h. record { name = refl; category = λ _. refl; types = h })
said c first kind.Cast line fields =
    if_both (type_of c (field fields 1)) (type_of c (field fields 2)) (cast_row c line fields) (λ type. is_known c type ≡ true) (λ type. is_known c type ≡ true) (Said c kind.Cast fields)
    (type_known c first (field fields 1)) (type_known c first (field fields 2)) (λ from to h k. record { name = refl; category = λ _. refl; types = and_from (is_known c from) (is_known c to) h k })
said c first kind.Function line fields =
    if_both (types_of c (arg_names (field fields 2))) (type_of c (field fields 4)) (function_row line fields) (λ types. list_all (is_known c) types ≡ true) (λ type. is_known c type ≡ true) (Said c kind.Function fields)
    (types_known c first (arg_names (field fields 2))) (type_known c first (field fields 4)) (λ args result h k. record { name = refl; category = λ _. refl; types = and_from (list_all (is_known c) args) (is_known c result) h k })
said c first kind.Operator line fields =
    if_both (left_of c (field fields 2)) (type_of c (field fields 3)) (operator_row c line fields) (λ left. IfSome left (λ type. is_known c type ≡ true)) (λ type. is_known c type ≡ true) (Said c kind.Operator fields)
    (left_known c first (field fields 2)) (type_known c first (field fields 3)) (λ left right h k. record { name = refl; category = λ _. refl; types = operands_known c left right h k })

pub Said-record : (c : Contents) → HasFirst c.types → (form : RecordKind) (line : ℕ) (fields : List (List ℕ)) (r : Record) → record_as form c line fields ≡ Some r → Said c form fields r
Said-record c first form line fields r e = let P : Option Record → Type 0 = λ o. IfSome o (Said c form fields) in subst P e (said c first form line fields)

-- ---- rules one after another

pub first_broken-none : (front back : List Rule) (c : Contents) (line : ℕ) (fields : List (List ℕ)) → first_broken front c line fields ≡ None → first_broken (front ++ back) c line fields ≡ first_broken back c line fields
first_broken-none [] back c line fields h = refl
first_broken-none (rule ∷ front) back c line fields h =
    elim (rule.keeps c line fields) as (λ v. cond v (first_broken front c line fields) (Some rule.why) ≡ None → cond v (first_broken (front ++ back) c line fields) (Some rule.why) ≡ first_broken back c line fields) [
      | true ↦ λ k. first_broken-none front back c line fields k
      | false ↦ λ k. cc k
    ] h

pub first_broken-some : (front back : List Rule) (c : Contents) (line : ℕ) (fields : List (List ℕ)) (why : Why) → first_broken front c line fields ≡ Some why → first_broken (front ++ back) c line fields ≡ Some why
first_broken-some [] back c line fields why h = cc h
first_broken-some (rule ∷ front) back c line fields why h =
    elim (rule.keeps c line fields) as (λ v. cond v (first_broken front c line fields) (Some rule.why) ≡ Some why → cond v (first_broken (front ++ back) c line fields) (Some rule.why) ≡ Some why) [
      | true ↦ λ k. first_broken-some front back c line fields why k
      | false ↦ λ k. k
    ] h

-- each rule of a list is kept
abbrev pub AreKept : List Rule → Contents → ℕ → List (List ℕ) → Type 0
AreKept [] c line fields = Unit {0}
AreKept (rule ∷ more) c line fields = (rule.keeps c line fields ≡ true) × AreKept more c line fields

pub are_kept : (list : List Rule) (c : Contents) (line : ℕ) (fields : List (List ℕ)) → first_broken list c line fields ≡ None → AreKept list c line fields
are_kept [] c line fields h = tt
are_kept (rule ∷ more) c line fields h =
    elim (rule.keeps c line fields) as (λ v. cond v (first_broken more c line fields) (Some rule.why) ≡ None → (v ≡ true) × AreKept more c line fields) [
      | true ↦ λ k. (refl, are_kept more c line fields k)
      | false ↦ λ k. cc k
    ] h

on_some : {X : Type 0} (keeps : X → Bool) (o : Option X) (x : X) → o ≡ Some x → option_map_or keeps o false ≡ true → keeps x ≡ true
on_some keeps o x e h = rw e at h

-- the name is spelled as one, and so is the category
pub named-kept : (c : Contents) (line : ℕ) (fields : List (List ℕ)) (form : RecordKind) → kind_of (field fields 0) ≡ Some form → first_broken form_rules c line fields ≡ None → is_named form fields ≡ true
named-kept c line fields form e h = on_some (λ f. is_named f fields) (kind_of (field fields 0)) form e (are_kept form_rules c line fields h).1.1.0

-- what a kind's record is
pub record_of-as : (c : Contents) (form : RecordKind) (line : ℕ) (fields : List (List ℕ)) (o : Option Record) → kind_of (field fields 0) ≡ Some form → record_as form c line fields ≡ o → record_of c line fields ≡ o
record_of-as c form line fields o e is = rw e is

-- a record that breaks no rule keeps those of a catalogue, and fits its body
abbrev pub IsKept : Contents → Record → Type 0
IsKept c r = (keeps_rules c r ≡ true) × (fits_body c r ≡ true)

kept_with : (c : Contents) → HasFirst c.types → (line : ℕ) (fields : List (List ℕ)) (r : Record) → first_broken rules c line fields ≡ None → record_of c line fields ≡ Some r → (o : Option RecordKind) → kind_of (field fields 0) ≡ o → IsKept c r
kept_with c first line fields r h said None e = let no : false ≡ true = rw e at (are_kept rules c line fields h).0 in cc no
kept_with c first line fields r h said (Some form) e =
    let kept = are_kept rules c line fields h in
    let later = kept.1.1.1.1.1.1.1 in
    let is = Said-record c first form line fields r (rw e at said) in
    let name = is.name ∙ on_some (λ f. is_named f fields) (kind_of (field fields 0)) form e kept.1.1.0 in
    let category = is.category (on_some (λ f. has_category f fields) (kind_of (field fields 0)) form e kept.1.1.1.1.0) in
    let new = on_some (is_new c) (record_of c line fields) r said later.0 in
    let base = on_some (has_good_base c) (record_of c line fields) r said later.1.0 in
    let arguments = on_some (has_good_args c) (record_of c line fields) r said later.1.1.0 in
    let function = on_some (has_function c) (record_of c line fields) r said later.1.1.1.1.0 in
    let body = on_some (fits_body c) (record_of c line fields) r said later.1.1.1.1.1.0 in (
      and_from _ (has_function c r) (and_from _ (has_good_args c r) (and_from _ (has_good_base c r) (and_from _ (is_new c r) (and_from _ (has_known_types c r)
          (and_from (has_good_name r) (has_good_category r) name category) is.types) new) base) arguments) function,
      body,
    )

pub IsKept-read : (c : Contents) → HasFirst c.types → (line : ℕ) (fields : List (List ℕ)) (r : Record) → first_broken rules c line fields ≡ None → record_of c line fields ≡ Some r → IsKept c r
IsKept-read c first line fields r h said = kept_with c first line fields r h said (kind_of (field fields 0)) refl
