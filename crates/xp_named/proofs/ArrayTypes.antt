-- Which types are arrays, and what they are called.
use Rattle.std.proofs.Common.{◌≡◌, ℕ, zero, suc, ◌<◌, List, [], ◌∷◌, ◌++◌, Bool, true, false, cond, length, refl, sym, ◌∙◌, ap, arith, codes, drop, get_or, Option, Some, None, option_map, slice_get, length-append}
use Rattle.std.proofs.Math.Seq.{drop-append_seam}
use Rattle.std.specs.List.{All, position}
use Rattle.std.specs.Prelude.{IfSome}
use Rattle.std.specs.Str.{bytes_eq}
use Rattle.std.proofs.lemmas.Bool.Decides.{nat_tests}
use Rattle.std.proofs.lemmas.List.Elements.{All-append}
use Rattle.std.proofs.lemmas.Option.{get_or_from_slice_get, slice_get_within}
use Rattle.std.proofs.lemmas.Slice.Eq.{bytes_eq-Decides}
use Rattle.xp_base.specs.declared.numbers.TypeNo.{TypeNo}
use Rattle.xp_catalog.specs.declared.rows.PseudoType.{PseudoType}
use Rattle.xp_catalog.specs.declared.rows.TypeKind.{TypeKind}
use Rattle.xp_catalog.specs.declared.rows.TypeKind.TheVariants as kind
use Rattle.xp_catalog.specs.declared.rows.TypeRow.{TypeRow}
use Rattle.xp_catalog.specs.declared.record.Record.{Record}
use Rattle.xp_catalog.specs.declared.record.Record.TheVariants as row
use Rattle.xp_catalog.specs.Contents.{Contents, added, array_row, category_at, type_row, unknown_row, with_array, with_type}
use Rattle.xp_catalog.specs.Lookups.{has_type_name, type_named, type_number}
use Rattle.xp_catalog.specs.Rules.{kind_of, name_of}
use Rattle.xp_catalog.specs.Spelling as spelling
use Rattle.xp_catalog.specs.WellFormed.{IsBuilt, IsWellFormed}
use Rattle.xp_catalog.specs.WellFormed.IsBuilt.{nothing, more}
use Rattle.xp_types.specs.Readers.{array_of, element, element_by, is_array_over, pseudo_type, pseudo_by}
use Rattle.xp_types.proofs.Built.{over_is, paired}
use Rattle.xp_types.proofs.Pairs.{element_at}
use Rattle.xp_types.proofs.Places.{place_holds}
use Rattle.xp_named.specs.Names.{is_value_type, type_called}

same_element : (c : Contents) (t : TypeNo) → element c t ≡ element_at c.types t.0
same_element c t = by (slice_get c.types t.0) refl
  where
    by : (o : Option TypeRow) → slice_get c.types t.0 ≡ o → element c t ≡ element_at c.types t.0
    by None is = rw is refl
    by (Some row) is = rw is refl

array_is_no_pseudo : (k : TypeKind) (e : TypeNo) → element_by k ≡ Some e → pseudo_by k ≡ None
array_is_no_pseudo kind.Plain e is = cc
array_is_no_pseudo (kind.Pseudo pseudo) e is = cc
array_is_no_pseudo (kind.Array element) e is = refl
array_is_no_pseudo (kind.Range row) e is = cc
array_is_no_pseudo (kind.Domain row) e is = cc

-- a value may have an array type
pub arrays_are_valued : (c : Contents) (t e : TypeNo) → IsWellFormed c → element c t ≡ Some e → is_value_type c t ≡ true
arrays_are_valued c t e well is =
    let place = (paired well.count c well.built).elements t.0 e (sym (same_element c t) ∙ is) in
    let none : pseudo_type c t ≡ None = array_is_no_pseudo (kind_of c t) e is in
    rw none (grind (arith, nat_tests, place.0))

pub each_is_valued : (c : Contents) (t : TypeNo) (o : Option TypeNo) → IsWellFormed c → IfSome o (λ array. element c array ≡ Some t) → IfSome o (λ array. is_value_type c array ≡ true)
each_is_valued c t None well is = tt
each_is_valued c t (Some array) well is = arrays_are_valued c array t well is

-- ---- the name of an array type ends in brackets

abbrev pub IsBracketed : TypeRow → Type 0
IsBracketed row = IfSome (element_by row.kind) (λ e. (front : List ℕ) × (row.name ≡ front ++ codes "[]"))

one : (row : TypeRow) → IsBracketed row → All IsBracketed (row ∷ [])
one row is zero d h = is
one row is (suc k) d h = absurd (omega arith)

both : (row : TypeRow) (number : ℕ) → IsBracketed row → All IsBracketed (row ∷ array_row number row ∷ [])
both row number is zero d h = is
both row number is (suc zero) d h = (row.name, refl)
both row number is (suc (suc k)) d h = absurd (omega arith)

pair_added : (types : List TypeRow) (row : TypeRow) → IsBracketed row → All IsBracketed types → All IsBracketed (with_array types row)
pair_added types row is before = All-append IsBracketed types (row ∷ array_row (length types) row ∷ []) before (both row (length types) is)

type_added : (types : List TypeRow) (name : List ℕ) (category : ℕ) (preferred : Bool) (line : ℕ) → All IsBracketed types → All IsBracketed (with_type types name category preferred line)
type_added types name category preferred line before = go (spelling.pseudo_type name) refl
  where
    go : (found : Option PseudoType) → spelling.pseudo_type name ≡ found → All IsBracketed (with_type types name category preferred line)
    go (Some pseudo) is = rw is (All-append IsBracketed types (type_row name category preferred (kind.Pseudo pseudo) line ∷ []) before (one (type_row name category preferred (kind.Pseudo pseudo) line) tt))
    go None is = rw is (pair_added types (type_row name category preferred kind.Plain line) tt before)

record_added : (c : Contents) (r : Record) → All IsBracketed c.types → All IsBracketed (added c r).types
record_added c (row.Plain name category preferred line) before = type_added c.types name category preferred line before
record_added c (row.Range name subtype line) before = pair_added c.types (type_row name 82 false (kind.Range (record { 0 = length c.ranges })) line) tt before
record_added c (row.Domain name base not_null check line) before = pair_added c.types (type_row name (category_at c.types base) false (kind.Domain (record { 0 = length c.domains })) line) tt before
record_added c (row.Cast cast) before = before
record_added c (row.Function func) before = before
record_added c (row.Operator oper) before = before

bracketed : (n : ℕ) (c : Contents) → IsBuilt n c → All IsBracketed c.types
bracketed n c nothing = one unknown_row tt
bracketed n c (more m before r built keeps) = record_added before r (bracketed m before built)

-- a name that ends otherwise
not_bracketed : (front : List ℕ) → codes "bpchar" ≡ front ++ codes "[]" → ⊥
not_bracketed front is =
    let four : length front ≡ 4 = omega (arith, ap length is, length-append front (codes "[]")) in
    let end : drop 4 (codes "bpchar") ≡ codes "[]" = ap (drop 4) is ∙ (rw four at (drop-append_seam front (codes "[]"))) in
    let never : false ≡ true = (bytes_eq-Decides (codes "ar") (codes "[]")).1 end in
    cc never

-- the type that is called so is no array type
pub bpchar_is_no_array : (c : Contents) (t : TypeNo) → IsWellFormed c → name_of c t ≡ codes "bpchar" → element c t ≡ None
bpchar_is_no_array c t well called = by (slice_get c.types t.0) refl
  where
    by_kind : (row : TypeRow) → row.name ≡ codes "bpchar" → IsBracketed row → (o : Option TypeNo) → element_by row.kind ≡ o → o ≡ None
    by_kind row name is None e = refl
    by_kind row name is (Some inner) e = let ends = rw e at is in absurd (not_bracketed ends.0 (sym name ∙ ends.1))

    by : (o : Option TypeRow) → slice_get c.types t.0 ≡ o → element c t ≡ None
    by None is = rw is refl
    by (Some row) is =
        let within : t.0 < length c.types = slice_get_within c.types t.0 row is in
        let here : get_or c.types t.0 row ≡ row = get_or_from_slice_get c.types t.0 row row is in
        let ends : IsBracketed row = rw here at (bracketed well.count c well.built t.0 row within) in
        let name : row.name ≡ codes "bpchar" = rw is at called in
        rw is (by_kind row name ends (element_by row.kind) refl)

-- ---- what a type that is found is called

row_named_so : (c : Contents) (name : List ℕ) (k : ℕ) (row : TypeRow) → slice_get c.types k ≡ Some row → has_type_name name row ≡ true → name_of c (type_number k) ≡ name
row_named_so c name k row here test = rw here ((bytes_eq-Decides row.name name).0 test)

pub named_so : (c : Contents) (name : List ℕ) (t : TypeNo) → type_named c name ≡ Some t → name_of c t ≡ name
named_so c name t is = by (bytes_eq name (codes "unknown")) refl
  where
    at_place : (o : Option ℕ) → position (has_type_name name) c.types ≡ o → option_map type_number o ≡ Some t → name_of c t ≡ name
    at_place None place e = cc
    at_place (Some k) place e =
        let found = place_holds (has_type_name name) c.types k place in
        let same : type_number k ≡ t = cc in
        rw (← same) (row_named_so c name k found.0 found.1 found.2)

    by : (b : Bool) → bytes_eq name (codes "unknown") ≡ b → name_of c t ≡ name
    by true e = let none : None ≡ Some t = rw e at is in cc
    by false e = at_place (position (has_type_name name) c.types) refl (rw e at is)

pub called_so : (c : Contents) (name : List ℕ) (t : TypeNo) → type_called c name ≡ Some t → name_of c t ≡ name
called_so c name t is = by (type_named c name) refl
  where
    kept : (u : TypeNo) (b : Bool) → cond b (Some u) None ≡ Some t → u ≡ t
    kept u true e = cc
    kept u false e = cc

    by : (o : Option TypeNo) → type_named c name ≡ o → name_of c t ≡ name
    by None e = let none : None ≡ Some t = rw e at is in cc
    by (Some u) e = let same : u ≡ t = kept u (is_value_type c u) (rw e at is) in named_so c name t (e ∙ ap Some same)

-- the elements of the array type over a type are of that type
pub array_over : (c : Contents) (e t : TypeNo) → array_of c e ≡ Some t → element c t ≡ Some e
array_over c e t is = at_place (position (is_array_over e) c.types) refl is
  where
    at_row : (k : ℕ) (row : TypeRow) → slice_get c.types k ≡ Some row → is_array_over e row ≡ true → element c (type_number k) ≡ Some e
    at_row k row here test = rw here (over_is e (element_by row.kind) test)

    at_place : (o : Option ℕ) → position (is_array_over e) c.types ≡ o → option_map type_number o ≡ Some t → element c t ≡ Some e
    at_place None place found = cc
    at_place (Some k) place found =
        let row = place_holds (is_array_over e) c.types k place in
        let same : type_number k ≡ t = cc in
        rw (← same) (at_row k row.0 row.1 row.2)
