-- A value that was converted to what a parameter asks for stands at the parameter.
use Rattle.std.proofs.Common.{◌≡◌, List, [], ◌∷◌, ◌++◌, Bool, true, false, ◌&&◌, append-nil, append_assoc, codes, length, map, refl, sym, ◌∙◌, ap, zip, Option, Some, None, is_some}
use Rattle.xp_base.specs.declared.numbers.TypeNo.{TypeNo}
use Rattle.xp_value.specs.declared.value.Rep.TheVariants as rep
use Rattle.xp_catalog.specs.declared.rows.TypeKind.{TypeKind}
use Rattle.xp_catalog.specs.declared.rows.TypeKind.TheVariants as kind
use Rattle.xp_catalog.specs.Contents.{Contents}
use Rattle.xp_catalog.specs.Lookups.{type_named}
use Rattle.xp_catalog.specs.Rules.{kind_of}
use Rattle.xp_catalog.specs.WellFormed.{IsWellFormed}
use Rattle.xp_types.specs.Common.{text}
use Rattle.xp_types.specs.Readers.{array_of, element, is_array, subtype, unknown}
use Rattle.xp_poly.specs.Bound.{bond_of, concrete_at, concrete_by, member_type}
use Rattle.xp_poly.specs.Roles.{role}
use Rattle.xp_poly.specs.declared.bound.Bonds.{Bonds}
use Rattle.xp_poly.specs.declared.roles.Form.{Form}
use Rattle.xp_poly.specs.declared.roles.Form.TheVariants.{Element, NonArray, Array, Range}
use Rattle.xp_poly.specs.declared.roles.Role.{Role}
use Rattle.xp_poly.specs.declared.roles.Role.TheVariants.{Plain, Any, Member}
use Rattle.xp_tree.specs.Rests.{is_represented}
use Rattle.xp_io.specs.Representations.{rep_of}
use Rattle.xp_named.proofs.ArrayTypes.{array_over}
use Rattle.xp_coerce.specs.Types.{node_type}
use Rattle.xp_coerce.proofs.Paths.{unknown_kept}
use Rattle.xp_coerce.proofs.Rests.{not_shown}
use Rattle.xp_coerce.proofs.Typing.{array_kept}
use Rattle.xp_resolve.specs.declared.nodes.Taking.{Taking}
use Rattle.xp_resolve.specs.declared.nodes.Taking.TheVariants.{AsBound, AsText, ElementsAsText}
use Rattle.xp_resolve.specs.declared.targets.Target.{Target}
use Rattle.xp_resolve.specs.declared.targets.Target.TheVariants as target
use Rattle.xp_resolve.specs.Targets.{by_member, by_role, if_there, is_last, target_of, targets}
use Rattle.xp_resolve.specs.inner.Sources.{target_type}
use Rattle.xp_resolve.specs.inner.Stands.{IsText, StandEach, StandsBy, StandsFor, StandsIn}
use Rattle.xp_resolve.proofs.AnyLast.{AnyIsLast, is_end}
use Rattle.xp_resolve.proofs.NodeLists.{base_of_array}

-- ---- what is not represented

pub array_not_shown : (c : Contents) (array type : TypeNo) → element c array ≡ Some type → is_represented (node_type c array) ≡ true → ⊥
array_not_shown c array type at some =
    not_shown (node_type c array) (array_kept c array type (ap (element c) (base_of_array c array type at) ∙ at)) some

range_kept : (c : Contents) (type : TypeNo) → is_some (subtype c type) ≡ true → rep_of c type ≡ rep.Opaque
range_kept c type some = go (kind_of c type) refl
  where
    go : (k : TypeKind) → kind_of c type ≡ k → rep_of c type ≡ rep.Opaque
    go kind.Plain is = let never : subtype c type ≡ None = rw is refl in let no : false ≡ true = rw never at some in absurd (cc no)
    go (kind.Pseudo pseudo) is = rw (is, is) refl
    go (kind.Array inner) is = rw (is, is) refl
    go (kind.Range number) is = rw (is, is) refl
    go (kind.Domain number) is = let never : subtype c type ≡ None = rw is refl in let no : false ≡ true = rw never at some in absurd (cc no)

texts_not_shown : (c : Contents) → IsWellFormed c → is_represented (target_type c target.ElementsWritten) ≡ true → ⊥
texts_not_shown c well some = go (array_of c (text c)) refl
  where
    go : (o : Option TypeNo) → array_of c (text c) ≡ o → ⊥
    go None is = not_shown (node_type c unknown) (unknown_kept c well) (rw is at some)
    go (Some array) is = array_not_shown c array (text c) (array_over c (text c) array is) (rw is at some)

-- where it is represented it has a name
text_stands : (c : Contents) → IsWellFormed c → is_represented (node_type c (text c)) ≡ true → IsText c (node_type c (text c))
text_stands c well some = go (type_named c (codes "text")) refl
  where
    go : (o : Option TypeNo) → type_named c (codes "text") ≡ o → IsText c (node_type c (text c))
    go None is = absurd (not_shown (node_type c unknown) (unknown_kept c well) (rw is at some))
    go (Some type) is = rw is (record { named = is; same = refl })

-- ---- one argument

array_never : (c : Contents) (type : TypeNo) (t : Target) → if_there (is_array c type) type ≡ Some t → is_represented (target_type c t) ≡ true → ⊥
array_never c type t is some = go (element c type) refl
  where
    go : (o : Option TypeNo) → element c type ≡ o → ⊥
    go None none = let never : None ≡ Some t = rw none at is in cc never
    go (Some inner) over =
        let shown : Some (target.Of type) ≡ Some t = rw over at is in
        let same : target.Of type ≡ t = cc in
        array_not_shown c type inner over (rw (← same) at some)

range_never : (c : Contents) (type : TypeNo) (t : Target) → if_there (is_some (subtype c type)) type ≡ Some t → is_represented (target_type c t) ≡ true → ⊥
range_never c type t is some = go (is_some (subtype c type)) refl
  where
    go : (b : Bool) → is_some (subtype c type) ≡ b → ⊥
    go false none = let never : None ≡ Some t = rw none at is in cc never
    go true range =
        let shown : Some (target.Of type) ≡ Some t = rw range at is in
        let same : target.Of type ≡ t = cc in
        not_shown (node_type c type) (range_kept c type range) (rw (← same) at some)

as_text : (c : Contents) (t : Target) → IsWellFormed c → Some target.Text ≡ Some t → is_represented (target_type c t) ≡ true → IsText c (target_type c t)
as_text c t well is some =
    let same : target.Text ≡ t = cc in
    rw (← same) (text_stands c well (rw (← same) at some))

as_texts : (c : Contents) (t : Target) → IsWellFormed c → Some target.ElementsWritten ≡ Some t → is_represented (target_type c t) ≡ true → ⊥
as_texts c t well is some =
    let same : target.ElementsWritten ≡ t = cc in
    texts_not_shown c well (rw (← same) at some)

member_stands : (c : Contents) (taking : Taking) (form : Form) (type : TypeNo) (t : Target) → IsWellFormed c → by_member taking c type form ≡ Some t → is_represented (target_type c t) ≡ true → StandsIn c taking form (target_type c t)
member_stands c AsText Element type t well is some = as_text c t well is some
member_stands c AsText NonArray type t well is some = as_text c t well is some
member_stands c AsText Array type t well is some = array_never c type t is some
member_stands c AsText Range type t well is some = range_never c type t is some
member_stands c AsBound Element type t well is some = tt
member_stands c AsBound NonArray type t well is some = tt
member_stands c AsBound Array type t well is some = array_never c type t is some
member_stands c AsBound Range type t well is some = range_never c type t is some
member_stands c ElementsAsText Element type t well is some = tt
member_stands c ElementsAsText NonArray type t well is some = tt
member_stands c ElementsAsText Array type t well is some = as_texts c t well is some
member_stands c ElementsAsText Range type t well is some = range_never c type t is some

role_stands : (c : Contents) (taking : Taking) (spread : Bool) (both : Bonds) (declared input : TypeNo) (r : Role) (t : Target) → IsWellFormed c → (r ≡ Any → spread ≡ true) → by_role taking c spread (concrete_by c both declared input r) r ≡ Some t → is_represented (target_type c t) ≡ true → StandsBy c taking declared r (target_type c t)
role_stands c taking spread both declared input Plain t well any is some =
    let same : target.Of declared ≡ t = cc in
    rw (← same) refl
role_stands c taking spread both declared input Any t well any is some = as_texts c t well (rw (any refl) at is) some
role_stands c taking spread both declared input (Member family form) t well any is some =
    member_stands c taking form (member_type c (bond_of both family) form) t well is some

one_stands : (c : Contents) (taking : Taking) (spread : Bool) (both : Bonds) (declared input : TypeNo) (t : Target) → IsWellFormed c → (role c declared ≡ Any → spread ≡ true) → target_of taking c spread (declared, concrete_at c both (declared, input)) ≡ Some t → StandsFor c taking declared (target_type c t)
one_stands c taking spread both declared input t well any is some = role_stands c taking spread both declared input (role c declared) t well any is some

-- ---- all of them

-- the declared types, each with the one that stands for it
abbrev pub pairs_of : Contents → Bonds → List TypeNo → List TypeNo → List (TypeNo × TypeNo)
pairs_of c both args inputs = zip args (map (concrete_at c both) (zip args inputs))

pub record Standing (c : Contents) (taking : Taking) (args : List TypeNo) (before list : List Target) : Type 0 where
  pub new : List Target
  pub is : list ≡ before ++ new
  pub stand : StandEach c taking args (map (target_type c) new)

end_is : (c : Contents) (variadic : Bool) (both : Bonds) (args inputs : List TypeNo) → (variadic && is_end args) ≡ true → (variadic && is_last (pairs_of c both args inputs)) ≡ true
end_is c variadic both [] inputs is = is
end_is c true both (declared ∷ args) inputs is = absurd (cc is)
end_is c false both (declared ∷ args) inputs is = absurd (cc is)

pub each_stands : (c : Contents) (taking : Taking) (variadic : Bool) (both : Bonds) (args inputs : List TypeNo) (before list : List Target) → IsWellFormed c → AnyIsLast c variadic args → length args ≡ length inputs → targets taking c variadic before (pairs_of c both args inputs) ≡ Some list → Standing c taking args before list
each_stands c taking variadic both [] [] before list well any same is =
    let own : before ≡ list = cc in
    record { new = []; is = sym own ∙ sym (append-nil before); stand = tt }
each_stands c taking variadic both [] (input ∷ inputs) before list well any same is = absurd (cc same)
each_stands c taking variadic both (declared ∷ args) [] before list well any same is = absurd (cc same)
each_stands c taking variadic both (declared ∷ args) (input ∷ inputs) before list well any same is =
    go (target_of taking c spread (declared, concrete_at c both (declared, input))) refl (λ t. each_stands c taking variadic both args inputs (before ++ t ∷ []) list well any.1 (cc same))
  where
    spread : Bool
    spread = variadic && is_last (pairs_of c both args inputs)

    go : (o : Option Target) → target_of taking c spread (declared, concrete_at c both (declared, input)) ≡ o → ((t : Target) → targets taking c variadic (before ++ t ∷ []) (pairs_of c both args inputs) ≡ Some list → Standing c taking args (before ++ t ∷ []) list) → Standing c taking (declared ∷ args) before list
    go None none rest = let never : None ≡ Some list = rw none at is in absurd (cc never)
    go (Some t) found rest =
        let onward : targets taking c variadic (before ++ t ∷ []) (pairs_of c both args inputs) ≡ Some list = rw found at is in
        let more = rest t onward in
        record {
          new = t ∷ more.new;
          is = more.is ∙ append_assoc before (t ∷ []) more.new;
          stand = (one_stands c taking spread both declared input t well (λ role. end_is c variadic both args inputs (any.0 role)) found, more.stand);
        }
