-- Elements of arrays.
use Rattle.std.proofs.Common.{◌≡◌, List, false, true, refl, sym, ◌∙◌, ap, arith, Option, Some, None, slice_get}
use Rattle.std.specs.List.{All}
use Rattle.std.proofs.lemmas.Bool.Decides.{nat_tests}
use Rattle.xp_base.specs.declared.numbers.TypeNo.{TypeNo}
use Rattle.xp_catalog.specs.declared.rows.TypeRow.{TypeRow}
use Rattle.xp_catalog.specs.Contents.{Contents}
use Rattle.xp_catalog.specs.WellFormed.{IsWellFormed}
use Rattle.xp_types.specs.Readers.{element, is_array, is_known}
use Rattle.xp_types.proofs.Built.{paired}
use Rattle.xp_types.proofs.Pairs.{element_at}
use Rattle.xp_tree.specs.Term.{Term, type_of}
use Rattle.xp_coerce.specs.Types.{node_type}
use Rattle.xp_resolve.specs.inner.Stands.{IsElementOf}

-- trees of the type are elements of an array over it
pub are_elements : (c : Contents) (array type : TypeNo) (trees : List Term) → element c array ≡ Some type → All (λ t. type_of t ≡ node_type c type) trees → All (λ t. IsElementOf c array (type_of t)) trees
are_elements c array type trees over all = λ k d within. rw over (ap Some (sym (all k d within)))

same_element : (c : Contents) (t : TypeNo) → element c t ≡ element_at c.types t.0
same_element c t = by (slice_get c.types t.0) refl
  where
    by : (o : Option TypeRow) → slice_get c.types t.0 ≡ o → element c t ≡ element_at c.types t.0
    by None is = rw is refl
    by (Some row) is = rw is refl

-- neither an array nor its element is `unknown`
pub array_known : (c : Contents) (array type : TypeNo) → IsWellFormed c → element c array ≡ Some type → is_known array ≡ true
array_known c array type well is =
    let place = (paired well.count c well.built).elements array.0 type (sym (same_element c array) ∙ is) in
    grind (arith, nat_tests, place.0)

pub array_type_known : (c : Contents) (array : TypeNo) → IsWellFormed c → is_array c array ≡ true → is_known array ≡ true
array_type_known c array well is = go (element c array) refl
  where
    go : (o : Option TypeNo) → element c array ≡ o → is_known array ≡ true
    go None none = let never : false ≡ true = rw none at is in absurd (cc never)
    go (Some type) over = array_known c array type well over

pub element_known : (c : Contents) (array type : TypeNo) → IsWellFormed c → element c array ≡ Some type → is_known type ≡ true
element_known c array type well is =
    let place = (paired well.count c well.built).elements array.0 type (sym (same_element c array) ∙ is) in
    grind (arith, nat_tests, place.1)
