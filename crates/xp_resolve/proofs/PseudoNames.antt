-- A type is the pseudo-type whose name it has, and no other.
use Rattle.std.proofs.Common.{◌≡◌, ℕ, List, [], ◌∷◌, ◌++◌, Bool, true, false, ◌&&◌, not, length, codes, refl, sym, ◌∙◌, ap, Option, Some, None, is_some, slice_get}
use Rattle.std.specs.List.{All, list_any}
use Rattle.std.specs.Str.{bytes_eq}
use Rattle.std.proofs.lemmas.Bool.{not-true}
use Rattle.std.proofs.lemmas.List.Elements.{All-append, All-cons, All-nil, All-push}
use Rattle.std.proofs.lemmas.List.Folds.{list_any-append}
use Rattle.std.proofs.lemmas.Slice.Eq.{bytes_eq-Decides}
use Rattle.xp_base.specs.declared.numbers.TypeNo.{TypeNo}
use Rattle.xp_catalog.specs.declared.rows.PseudoType.{PseudoType}
use Rattle.xp_catalog.specs.declared.rows.TypeKind.TheVariants as kind
use Rattle.xp_catalog.specs.declared.rows.TypeRow.{TypeRow}
use Rattle.xp_catalog.specs.declared.record.Record.{Record}
use Rattle.xp_catalog.specs.declared.record.Record.TheVariants as row
use Rattle.xp_catalog.specs.Contents.{Contents, added, array_row, category_at, type_row, unknown_row, with_array, with_type}
use Rattle.xp_catalog.specs.Rules.{is_domain_kind, is_pseudo_kind, is_range_over, kind_of, name_of}
use Rattle.xp_catalog.specs.Spelling as spelling
use Rattle.xp_catalog.specs.Spelling.{is_among, is_pseudo_name, plain_names, range_names}
use Rattle.xp_catalog.specs.WellFormed.{IsBuilt, IsWellFormed}
use Rattle.xp_catalog.specs.WellFormed.IsBuilt.{nothing, more}
use Rattle.xp_catalog.proofs.Keeps.{Keeps, keeps-each}
use Rattle.xp_types.specs.Readers.{pseudo_by, pseudo_type}
use Rattle.xp_poly.specs.Roles.{role, role_by}
use Rattle.xp_coerce.proofs.Growing.{all_at}

IsOwn : TypeRow → Type 0
IsOwn type = pseudo_by type.kind ≡ spelling.pseudo_type type.name

-- ---- a name in brackets is that of no pseudo-type

has_bracket : List ℕ → Bool
has_bracket name = list_any (λ b. bytes_eq (b ∷ []) (codes "]")) name

not_word : (name word : List ℕ) → has_bracket word ≡ false → bytes_eq (name ++ codes "[]") word ≡ false
unfolding has_bracket
not_word name word none = go (bytes_eq (name ++ codes "[]") word) refl
  where
    ends : (a : Bool) → list_any (λ b. bytes_eq (b ∷ []) (codes "]")) name ≡ a → has_bracket (name ++ codes "[]") ≡ true
    ends true is = list_any-append (λ b. bytes_eq (b ∷ []) (codes "]")) name (codes "[]") ∙ (rw is refl)
    ends false is = list_any-append (λ b. bytes_eq (b ∷ []) (codes "]")) name (codes "[]") ∙ (rw is refl)

    go : (a : Bool) → bytes_eq (name ++ codes "[]") word ≡ a → a ≡ false
    go false is = refl
    go true is =
        let same : name ++ codes "[]" ≡ word = (bytes_eq-Decides (name ++ codes "[]") word).0 is in
        let never : has_bracket word ≡ true = rw (← same) (ends (list_any (λ b. bytes_eq (b ∷ []) (codes "]")) name) refl) in
        absurd (cc (none, never))

in_brackets : (name : List ℕ) → spelling.pseudo_type (name ++ codes "[]") ≡ None
unfolding has_bracket
in_brackets name =
    rw (not_word name (codes "any") refl, not_word name (codes "anyelement") refl, not_word name (codes "anyarray") refl, not_word name (codes "anynonarray") refl, not_word name (codes "anyrange") refl, not_word name (codes "anycompatible") refl, not_word name (codes "anycompatiblearray") refl, not_word name (codes "anycompatiblenonarray") refl, not_word name (codes "anycompatiblerange") refl) refl

-- ---- what each record adds

none_is : (o : Option PseudoType) → is_some o ≡ false → o ≡ None
none_is None is = refl
none_is (Some pseudo) is = cc is

own_both : (types : List TypeRow) (type : TypeRow) → All IsOwn types → IsOwn type → All IsOwn (with_array types type)
unfolding IsOwn
own_both types type all new =
    All-append IsOwn types (type ∷ array_row (length types) type ∷ []) all
    (All-cons IsOwn type (array_row (length types) type ∷ []) new (All-cons IsOwn (array_row (length types) type) [] (sym (in_brackets type.name)) (All-nil IsOwn)))

own_plain : (types : List TypeRow) (name : List ℕ) (category : ℕ) (preferred : Bool) (line : ℕ) → All IsOwn types → All IsOwn (with_type types name category preferred line)
unfolding IsOwn
own_plain types name category preferred line all = go (spelling.pseudo_type name) refl
  where
    go : (found : Option PseudoType) → spelling.pseudo_type name ≡ found → All IsOwn (with_type types name category preferred line)
    go (Some pseudo) is = rw is (All-push IsOwn types (type_row name category preferred (kind.Pseudo pseudo) line) all (sym is))
    go None is = rw is (own_both types (type_row name category preferred kind.Plain line) all (sym is))

second_of_three : (a b c : Bool) → (a && b && c) ≡ true → b ≡ true
second_of_three true true c is = refl
second_of_three true false c is = cc is
second_of_three false b c is = cc is

fourth_of_five : (a b c d e : Bool) → (a && b && c && d && e) ≡ true → d ≡ true
fourth_of_five true true true true e is = refl
fourth_of_five true true true false e is = cc is
fourth_of_five true true false d e is = cc is
fourth_of_five true false c d e is = cc is
fourth_of_five false b c d e is = cc is

own_added : (c : Contents) (r : Record) → Keeps c r → All IsOwn c.types → All IsOwn (added c r).types
unfolding IsOwn
own_added c (row.Plain name category preferred line) keeps all = own_plain c.types name category preferred line all
own_added c (row.Range name subtype line) keeps all =
    let none : is_pseudo_name name ≡ false = not-true (is_pseudo_name name) (second_of_three (not (is_among plain_names name)) (not (is_pseudo_name name)) (is_range_over name (name_of c subtype)) keeps.base) in
    own_both c.types (type_row name 82 false (kind.Range (record { 0 = length c.ranges })) line) all (sym (none_is (spelling.pseudo_type name) none))
own_added c (row.Domain name over not_null check line) keeps all =
    let none : is_pseudo_name name ≡ false = not-true (is_pseudo_name name) (fourth_of_five (not (is_domain_kind (kind_of c over))) (not (is_pseudo_kind (kind_of c over))) (not (is_among plain_names name)) (not (is_pseudo_name name)) (not (is_among range_names name)) keeps.base) in
    own_both c.types (type_row name (category_at c.types over) false (kind.Domain (record { 0 = length c.domains })) line) all (sym (none_is (spelling.pseudo_type name) none))
own_added c (row.Cast cast) keeps all = all
own_added c (row.Function func) keeps all = all
own_added c (row.Operator oper) keeps all = all

own_rows : (n : ℕ) (c : Contents) → IsBuilt n c → All IsOwn c.types
unfolding IsOwn
own_rows n c nothing = All-cons IsOwn unknown_row [] refl (All-nil IsOwn)
own_rows n c (more m before r built keeps) = own_added before r (keeps-each before r keeps) (own_rows m before built)

-- a type is the pseudo-type of its name
pub pseudo_called : (c : Contents) (type : TypeNo) → IsWellFormed c → pseudo_type c type ≡ spelling.pseudo_type (name_of c type)
unfolding IsOwn
pseudo_called c type well = go (slice_get c.types type.0) refl
  where
    go : (o : Option TypeRow) → slice_get c.types type.0 ≡ o → pseudo_type c type ≡ spelling.pseudo_type (name_of c type)
    go None at = rw at refl
    go (Some row) at = rw at (all_at IsOwn c.types type.0 row (own_rows well.count c well.built) at)

pub role_called : (c : Contents) (type : TypeNo) (name : List ℕ) → IsWellFormed c → name_of c type ≡ name → role c type ≡ role_by (spelling.pseudo_type name)
role_called c type name well called = ap role_by (pseudo_called c type well ∙ ap spelling.pseudo_type called)
