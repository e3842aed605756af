-- Types of category S, and names of domains.
use Rattle.std.proofs.Common.{◌≡◌, ℕ, List, [], ◌∷◌, Bool, true, false, ◌&&◌, not, ◌==◌, length, refl, sym, ◌∙◌, arith, Option, Some, None, slice_get}
use Rattle.std.specs.List.{All}
use Rattle.std.proofs.lemmas.Bool.{not-true}
use Rattle.std.proofs.lemmas.List.Elements.{All-append, All-cons, All-nil, All-push}
use Rattle.xp_base.specs.declared.numbers.TypeNo.{TypeNo}
use Rattle.xp_catalog.specs.declared.rows.PseudoType.{PseudoType}
use Rattle.xp_catalog.specs.declared.rows.TypeKind.TheVariants as kind
use Rattle.xp_catalog.specs.declared.rows.TypeRow.{TypeRow}
use Rattle.xp_catalog.specs.declared.record.Record.{Record}
use Rattle.xp_catalog.specs.declared.record.Record.TheVariants as row
use Rattle.xp_catalog.specs.Contents.{Contents, added, array_row, category_at, type_row, unknown_row, with_array, with_type}
use Rattle.xp_catalog.specs.Rules.{is_domain_kind, is_pseudo_kind, kind_of, name_of}
use Rattle.xp_catalog.specs.Spelling.{is_among, is_letter_of, is_pseudo_name, plain_names, pseudo_type, range_names}
use Rattle.xp_catalog.specs.WellFormed.{IsBuilt, IsWellFormed}
use Rattle.xp_catalog.specs.WellFormed.IsBuilt.{nothing, more}
use Rattle.xp_catalog.proofs.Keeps.{Keeps, keeps-each}
use Rattle.xp_tree.specs.Typed.{may_be_text}
use Rattle.xp_types.specs.Paths.{is_domain, is_string}
use Rattle.xp_io.specs.Representations.{rep_by}
use Rattle.xp_coerce.proofs.Growing.{all_at, kept}
use Rattle.xp_coerce.proofs.Names.{string_named}

-- what the rules give each row of a type
record IsNamed (type : TypeRow) : Type 0 where
  string : type.category ≡ 83 → may_be_text (rep_by type.kind type.name) ≡ true
  domain : is_domain_kind type.kind ≡ true → is_among plain_names type.name ≡ false

no_array_of : (n : ℕ) (type : TypeRow) → IsNamed (array_row n type)
no_array_of n type = record { string = λ is. refl; domain = λ is. cc is }

with_both : (types : List TypeRow) (type : TypeRow) → All IsNamed types → IsNamed type → All IsNamed (with_array types type)
with_both types type all new =
    All-append IsNamed types (type ∷ array_row (length types) type ∷ []) all
    (All-cons IsNamed type (array_row (length types) type ∷ []) new (All-cons IsNamed (array_row (length types) type) [] (no_array_of (length types) type) (All-nil IsNamed)))

named_plain : (types : List TypeRow) (name : List ℕ) (category : ℕ) (preferred : Bool) (line : ℕ) → is_letter_of name category ≡ true → All IsNamed types → All IsNamed (with_type types name category preferred line)
named_plain types name category preferred line letter all = go (pseudo_type name) refl
  where
    go : (found : Option PseudoType) → pseudo_type name ≡ found → All IsNamed (with_type types name category preferred line)
    go (Some pseudo) is = rw is (All-push IsNamed types (type_row name category preferred (kind.Pseudo pseudo) line) all (record { string = λ same. refl; domain = λ same. cc same }))
    go None is = rw is (with_both types (type_row name category preferred kind.Plain line) all (record { string = λ same. string_named name (rw same at letter); domain = λ same. cc same }))

third_of_five : (a b c d e : Bool) → (a && b && c && d && e) ≡ true → c ≡ true
third_of_five a b true d e is = refl
third_of_five true true false d e is = is
third_of_five true false false d e is = cc is
third_of_five false b false d e is = cc is

named_added : (c : Contents) (r : Record) → Keeps c r → All IsNamed c.types → All IsNamed (added c r).types
named_added c (row.Plain name category preferred line) keeps all = named_plain c.types name category preferred line keeps.category all
named_added c (row.Range name subtype line) keeps all = with_both c.types (type_row name 82 false (kind.Range (record { 0 = length c.ranges })) line) all (record { string = λ is. refl; domain = λ is. cc is })
named_added c (row.Domain name over not_null check line) keeps all =
    with_both c.types (type_row name (category_at c.types over) false (kind.Domain (record { 0 = length c.domains })) line) all
    (record { string = λ is. refl; domain = λ is. not-true (is_among plain_names name) (third_of_five (not (is_domain_kind (kind_of c over))) (not (is_pseudo_kind (kind_of c over))) (not (is_among plain_names name)) (not (is_pseudo_name name)) (not (is_among range_names name)) keeps.base) })
named_added c (row.Cast cast) keeps all = all
named_added c (row.Function func) keeps all = all
named_added c (row.Operator oper) keeps all = all

named : (n : ℕ) (c : Contents) → IsBuilt n c → All IsNamed c.types
named n c nothing = All-cons IsNamed unknown_row [] (record { string = λ is. cc is; domain = λ is. cc is }) (All-nil IsNamed)
named n c (more m before r built keeps) = named_added before r (keeps-each before r keeps) (named m before built)

is_83 : (n : ℕ) → (n == 83) ≡ true → n ≡ 83
is_83 n is = grind (arith, is)

-- a type of category S is a text, or isn't represented
pub string_kept : (c : Contents) (type : TypeNo) → IsWellFormed c → is_string c type ≡ true → may_be_text (kept c type) ≡ true
string_kept c type well is = go (slice_get c.types type.0) refl
  where
    go : (o : Option TypeRow) → slice_get c.types type.0 ≡ o → may_be_text (kept c type) ≡ true
    go None at = let never : is_string c type ≡ false = rw at refl in cc (never, is)
    go (Some row) at =
        let letter : (row.category == 83) ≡ true = (let shown : is_string c type ≡ (row.category == 83) = rw at refl in sym shown ∙ is) in
        rw at ((all_at IsNamed c.types type.0 row (named well.count c well.built) at).string (is_83 row.category letter))

-- no domain has the name of a plain type
pub domain_named : (c : Contents) (type : TypeNo) → IsWellFormed c → is_domain c type ≡ true → is_among plain_names (name_of c type) ≡ false
domain_named c type well is = go (slice_get c.types type.0) refl
  where
    go : (o : Option TypeRow) → slice_get c.types type.0 ≡ o → is_among plain_names (name_of c type) ≡ false
    go None at = let never : is_domain c type ≡ false = rw at refl in cc (never, is)
    go (Some row) at =
        let own : is_domain_kind row.kind ≡ true = (let shown : is_domain c type ≡ is_domain_kind row.kind = rw at refl in sym shown ∙ is) in
        rw at ((all_at IsNamed c.types type.0 row (named well.count c well.built) at).domain own)
