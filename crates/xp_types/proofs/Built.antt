-- What records give every catalogue.
use Rattle.std.proofs.Common.{◌≡◌, ℕ, zero, suc, ◌+◌, ◌<◌, List, [], ◌∷◌, Bool, true, false, length, refl, sym, ◌∙◌, ap, arith, ◌&&◌, Option, Some, None, option_map, slice_get}
use Rattle.std.specs.Option.{option_map_or}
use Rattle.std.proofs.lemmas.Option.{slice_get-get_or, slice_get_within}
use Rattle.xp_base.specs.declared.numbers.TypeNo.{TypeNo}
use Rattle.xp_catalog.specs.declared.rows.PseudoType.{PseudoType}
use Rattle.xp_catalog.specs.declared.rows.TypeKind.{TypeKind}
use Rattle.xp_catalog.specs.declared.rows.TypeKind.TheVariants as kind
use Rattle.xp_catalog.specs.declared.rows.TypeRow.{TypeRow}
use Rattle.xp_catalog.specs.declared.record.Record.{Record}
use Rattle.xp_catalog.specs.declared.record.Record.TheVariants as row
use Rattle.xp_catalog.specs.Contents.{Contents, added, category_at, type_row, unknown_row, with_type}
use Rattle.xp_catalog.specs.Spelling.{pseudo_type}
use Rattle.xp_catalog.specs.Lookups.{type_number}
use Rattle.xp_catalog.specs.WellFormed.{IsBuilt, IsWellFormed}
use Rattle.xp_catalog.specs.WellFormed.IsBuilt.{nothing, more}
use Rattle.xp_types.specs.Readers.{array_of, element, element_by, has_array, has_array_type, is_array_over, is_known, is_same}
use Rattle.xp_types.proofs.Pairs.{IsPaired, element_at, element_within, has_array_at, paired_alone, paired_both}
use Rattle.xp_types.proofs.Places.{only_place, no_place}

paired_type : (types : List TypeRow) (name : List ℕ) (category : ℕ) (preferred : Bool) (line : ℕ) → IsPaired types → IsPaired (with_type types name category preferred line)
paired_type types name category preferred line before = go (pseudo_type name) refl
  where
    go : (found : Option PseudoType) → pseudo_type name ≡ found → IsPaired (with_type types name category preferred line)
    go (Some pseudo) is = rw is (paired_alone types (type_row name category preferred (kind.Pseudo pseudo) line) before refl refl)
    go None is = rw is (paired_both types (type_row name category preferred kind.Plain line) before refl refl)

-- a record keeps arrays directly behind the types of their elements
paired_added : (c : Contents) (r : Record) → IsPaired c.types → IsPaired (added c r).types
paired_added c (row.Plain name category preferred line) before = paired_type c.types name category preferred line before
paired_added c (row.Range name subtype line) before = paired_both c.types (type_row name 82 false (kind.Range (record { 0 = length c.ranges })) line) before refl refl
paired_added c (row.Domain name base not_null check line) before = paired_both c.types (type_row name (category_at c.types base) false (kind.Domain (record { 0 = length c.domains })) line) before refl refl
paired_added c (row.Cast cast) before = before
paired_added c (row.Function func) before = before
paired_added c (row.Operator oper) before = before

first_elements : (k : ℕ) (e : TypeNo) → element_at (unknown_row ∷ []) k ≡ Some e → ⊥
first_elements zero e at = grind (arith, at)
first_elements (suc k) e at = grind (arith, at)

first_arrays : (k : ℕ) → 0 < k → has_array_at (unknown_row ∷ []) k ≡ true → ⊥
first_arrays zero some at = omega arith
first_arrays (suc k) some at = grind (arith, at)

pub paired : (n : ℕ) (c : Contents) → IsBuilt n c → IsPaired c.types
paired n c nothing = record { some = omega arith; elements = λ k e at. absurd (first_elements k e at); arrays = λ k some at. absurd (first_arrays k some at) }
paired n c (more m before r built keeps) = paired_added before r (paired m before built)

-- a row that is an array over a type
over_element : (t : TypeNo) (types : List TypeRow) (k : ℕ) (row : TypeRow) → slice_get types k ≡ Some row → is_array_over t row ≡ true → (e : TypeNo) × (element_at types k ≡ Some e) × (t.0 ≡ e.0)
over_element t types k row at over = go (element_by row.kind) refl
  where
    go : (o : Option TypeNo) → element_by row.kind ≡ o → (e : TypeNo) × (element_at types k ≡ Some e) × (t.0 ≡ e.0)
    go None is = absurd (grind (arith, over, is))
    go (Some e) is = (e, rw at is, grind (arith, over, is))

only_behind : (c : Contents) (t : TypeNo) → IsPaired c.types → (k : ℕ) (row : TypeRow) → slice_get c.types k ≡ Some row → is_array_over t row ≡ true → k ≡ t.0 + 1
only_behind c t pairs k row at over =
    let found = over_element t c.types k row at over in
    let place = pairs.elements k found.0 found.1 in
    omega (arith, place.0, found.2)

-- the array type of a type is the type behind it, where that is an array over it
pub array_behind : (c : Contents) (t : TypeNo) → IsWellFormed c → option_map_or (is_same t) (element c (type_number (t.0 + 1))) false ≡ true → array_of c t ≡ Some (type_number (t.0 + 1))
array_behind c t well is = go (slice_get c.types (t.0 + 1)) refl
  where
    go : (o : Option TypeRow) → slice_get c.types (t.0 + 1) ≡ o → array_of c t ≡ Some (type_number (t.0 + 1))
    go None at = absurd (grind (arith, is, at))
    go (Some row) at =
        let over : is_array_over t row ≡ true = (let shown : option_map_or (is_same t) (element c (type_number (t.0 + 1))) false ≡ is_array_over t row = rw at refl in sym shown ∙ is) in
        ap (option_map type_number) (only_place (is_array_over t) c.types (t.0 + 1) row at over (only_behind c t (paired well.count c well.built)))

-- it has none where no such type stands behind it
pub no_array : (c : Contents) (t : TypeNo) → IsWellFormed c → (t.0 + 1 < length c.types → option_map_or (is_same t) (element c (type_number (t.0 + 1))) false ≡ false) → array_of c t ≡ None
no_array c t well none = ap (option_map type_number) (no_place (is_array_over t) c.types (λ k row at over.
    let here : k ≡ t.0 + 1 = only_behind c t (paired well.count c well.built) k row at over in
    let there : slice_get c.types (t.0 + 1) ≡ Some row = sym (ap (slice_get c.types) here) ∙ at in
    let within : t.0 + 1 < length c.types = slice_get_within c.types (t.0 + 1) row there in
    let shown : option_map_or (is_same t) (element c (type_number (t.0 + 1))) false ≡ is_array_over t row = rw there refl in
    let not : is_array_over t row ≡ false = sym shown ∙ none within in
    grind (arith, over, not)))

has_array_is : (c : Contents) (t : TypeNo) → t.0 < length c.types → has_array c t ≡ (is_known t && has_array_at c.types t.0)
has_array_is c t within = go (slice_get c.types t.0) refl
  where
    go : (o : Option TypeRow) → slice_get c.types t.0 ≡ o → has_array c t ≡ (is_known t && has_array_at c.types t.0)
    go None at = absurd (grind (arith, slice_get-get_or c.types t.0 unknown_row within, at))
    go (Some row) at = rw at refl

-- and it has one exactly where it is known, no array and no pseudo-type
pub has_behind : (c : Contents) (t : TypeNo) → IsWellFormed c → t.0 < length c.types → option_map_or (is_same t) (element c (type_number (t.0 + 1))) false ≡ true → has_array c t ≡ true
has_behind c t well within is = go (slice_get c.types (t.0 + 1)) refl
  where
    go : (o : Option TypeRow) → slice_get c.types (t.0 + 1) ≡ o → has_array c t ≡ true
    go None at = absurd (grind (arith, is, at))
    go (Some row) at =
        let over : is_array_over t row ≡ true = (let shown : option_map_or (is_same t) (element c (type_number (t.0 + 1))) false ≡ is_array_over t row = rw at refl in sym shown ∙ is) in
        let found = over_element t c.types (t.0 + 1) row at over in
        let pair = (paired well.count c well.built).elements (t.0 + 1) found.0 found.1 in
        let there : has_array_at c.types t.0 ≡ true = ap (has_array_at c.types) found.2 ∙ pair.2 in
        let same : t.0 ≡ found.0.0 = found.2 in
        let some : 0 < t.0 = omega (arith, pair.1, same) in
        let known : is_known t ≡ true = grind (arith, some) in
        has_array_is c t within ∙ rw (known, there) refl

element_is : (c : Contents) (k : ℕ) (e : TypeNo) → element_at c.types k ≡ Some e → element c (type_number k) ≡ Some e
element_is c k e at = go (slice_get c.types k) refl
  where
    go : (o : Option TypeRow) → slice_get c.types k ≡ o → element c (type_number k) ≡ Some e
    go None none = absurd (grind (arith, at, none))
    go (Some row) found =
        let here : element_at c.types k ≡ element_by row.kind = rw found refl in
        let there : element c (type_number k) ≡ element_by row.kind = rw found refl in
        there ∙ sym here ∙ at

same_itself : (t : TypeNo) → is_same t t ≡ true
same_itself t = grind arith

behind_is : (c : Contents) (t : TypeNo) → (t.0 + 1 < length c.types → option_map_or (is_same t) (element c (type_number (t.0 + 1))) false ≡ false) → element_at c.types (t.0 + 1) ≡ Some t → ⊥
behind_is c t none behind =
    let within : t.0 + 1 < length c.types = element_within c.types (t.0 + 1) t behind in
    let is : element c (type_number (t.0 + 1)) ≡ Some t = element_is c (t.0 + 1) t behind in
    let shown : option_map_or (is_same t) (element c (type_number (t.0 + 1))) false ≡ is_same t t = rw is refl in
    let not : is_same t t ≡ false = sym shown ∙ none within in
    grind (arith, same_itself t, not)

unknown_alone : (c : Contents) (t : TypeNo) → IsWellFormed c → (t.0 + 1 < length c.types → option_map_or (is_same t) (element c (type_number (t.0 + 1))) false ≡ false) → has_array_at c.types t.0 ≡ true → (b : Bool) → is_known t ≡ b → b ≡ false
unknown_alone c t well none at false is = refl
unknown_alone c t well none at true is =
    let some : 0 < t.0 = grind (arith, is) in
    absurd (behind_is c t none ((paired well.count c well.built).arrays t.0 some at))

pub no_behind : (c : Contents) (t : TypeNo) → IsWellFormed c → t.0 < length c.types → (t.0 + 1 < length c.types → option_map_or (is_same t) (element c (type_number (t.0 + 1))) false ≡ false) → has_array c t ≡ false
no_behind c t well within none = go (has_array_at c.types t.0) refl
  where
    go : (b : Bool) → has_array_at c.types t.0 ≡ b → has_array c t ≡ false
    go false at = has_array_is c t within ∙ rw at (grind arith)
    go true at = has_array_is c t within ∙ rw (at, unknown_alone c t well none at (is_known t) refl) refl

-- an option that holds the type itself
pub over_is : (t : TypeNo) (o : Option TypeNo) → option_map_or (is_same t) o false ≡ true → o ≡ Some t
over_is t None is = absurd (grind (arith, is))
over_is t (Some e) is = let same : e.0 ≡ t.0 = grind (arith, is) in ap (λ n. Some (type_number n)) same

no_element : (kind : TypeKind) → has_array_type kind ≡ true → element_by kind ≡ None
no_element kind.Plain has = refl
no_element (kind.Pseudo pseudo) has = refl
no_element (kind.Array element) has = absurd (grind (arith, has))
no_element (kind.Range number) has = refl
no_element (kind.Domain number) has = refl

element_at_is : (c : Contents) (t e : TypeNo) → element c t ≡ Some e → element_at c.types t.0 ≡ Some e
element_at_is c t e is = go (slice_get c.types t.0) refl
  where
    go : (o : Option TypeRow) → slice_get c.types t.0 ≡ o → element_at c.types t.0 ≡ Some e
    go None at = absurd (let never : element c t ≡ None = rw at refl in grind (arith, is, never))
    go (Some row) at = let here : element c t ≡ element_by row.kind = rw at refl in let there : element_at c.types t.0 ≡ element_by row.kind = rw at refl in there ∙ sym here ∙ is

flat_at : (c : Contents) (e : TypeNo) → has_array_at c.types e.0 ≡ true → element c e ≡ None
flat_at c e has = go (slice_get c.types e.0) refl
  where
    go : (o : Option TypeRow) → slice_get c.types e.0 ≡ o → element c e ≡ None
    go None at = absurd (grind (arith, at, has))
    go (Some row) at =
        let here : element c e ≡ element_by row.kind = rw at refl in
        let has_own : has_array_at c.types e.0 ≡ has_array_type row.kind = rw at refl in
        here ∙ no_element row.kind (sym has_own ∙ has)

-- the elements of arrays are no arrays
pub elements_flat : (c : Contents) (t e : TypeNo) → IsWellFormed c → element c t ≡ Some e → element c e ≡ None
elements_flat c t e well is = flat_at c e ((paired well.count c well.built).elements t.0 e (element_at_is c t e is)).2
