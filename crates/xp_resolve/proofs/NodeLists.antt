-- Lists of trees, and the types of their values.
use Rattle.std.proofs.Common.{◌≡◌, List, [], ◌∷◌, Option, Some, None, refl, ◌∙◌, ap, sym}
use Rattle.std.specs.List.{All}
use Rattle.std.proofs.lemmas.List.Elements.{All-cons, All-head, All-nil, All-tail}
use Rattle.xp_base.specs.declared.numbers.TypeNo.{TypeNo}
use Rattle.xp_catalog.specs.declared.rows.TypeKind.{TypeKind}
use Rattle.xp_catalog.specs.declared.rows.TypeKind.TheVariants as kind
use Rattle.xp_catalog.specs.Contents.{Contents}
use Rattle.xp_catalog.specs.Rules.{kind_of}
use Rattle.xp_types.specs.Readers.{base, element}
use Rattle.xp_tree.specs.declared.parts.NodeType.{NodeType}
use Rattle.xp_tree.specs.Term.{Term, terms, type_of}
use Rattle.xp_tree.specs.Typed.{AllTyped, IsTyped, types_of}
use Rattle.xp_io.specs.Representations.{element_rep, rep_of}
use Rattle.xp_coerce.specs.Types.{node_type}
use Rattle.xp_resolve.specs.inner.Stands.{IsElementOf}

pub all_typed : (trees : List Term) → All IsTyped trees → AllTyped (terms trees)
all_typed [] all = tt
all_typed (t ∷ trees) all = (All-head IsTyped t trees all, all_typed trees (All-tail IsTyped t trees all))

pub each_type : (P : NodeType → Type 0) (trees : List Term) → All (λ t. P (type_of t)) trees → All P (types_of (terms trees))
each_type P [] all = All-nil P
each_type P (t ∷ trees) all =
    All-cons P (type_of t) (types_of (terms trees)) (All-head (λ a. P (type_of a)) t trees all) (each_type P trees (All-tail (λ a. P (type_of a)) t trees all))

-- an array type counts as itself
pub base_of_array : (c : Contents) (array type : TypeNo) → element c array ≡ Some type → base c array ≡ array
base_of_array c array type at = go (kind_of c array) refl
  where
    go : (k : TypeKind) → kind_of c array ≡ k → base c array ≡ array
    go kind.Plain is = let never : element c array ≡ None = rw is refl in cc (never, at)
    go (kind.Pseudo pseudo) is = let never : element c array ≡ None = rw is refl in cc (never, at)
    go (kind.Array inner) is = rw is refl
    go (kind.Range number) is = let never : element c array ≡ None = rw is refl in cc (never, at)
    go (kind.Domain number) is = let never : element c array ≡ None = rw is refl in cc (never, at)

pub element_kept : (c : Contents) (array type : TypeNo) → element c array ≡ Some type → element_rep c array ≡ rep_of c type
element_kept c array type at =
    let same : base c array ≡ array = base_of_array c array type at in
    let here : element c (base c array) ≡ Some type = ap (element c) same ∙ at in
    rw here refl

pub element_is_kept : (c : Contents) (array : TypeNo) (ty : NodeType) → IsElementOf c array ty → ty.rep ≡ element_rep c array
element_is_kept c array ty is = go (element c array) refl
  where
    go : (o : Option TypeNo) → element c array ≡ o → ty.rep ≡ element_rep c array
    go None at = let never : None ≡ Some ty = rw at at is in cc never
    go (Some type) at =
        let shown : Some (node_type c type) ≡ Some ty = rw at at is in
        let same : node_type c type ≡ ty = cc in
        rw (← same) (sym (element_kept c array type at))

pub elements_kept : (c : Contents) (array : TypeNo) (trees : List Term) → All (λ t. IsElementOf c array (type_of t)) trees → All (λ (ty : NodeType). ty.rep ≡ element_rep c array) (types_of (terms trees))
elements_kept c array [] all = All-nil (λ (ty : NodeType). ty.rep ≡ element_rep c array)
elements_kept c array (t ∷ trees) all =
    All-cons (λ (ty : NodeType). ty.rep ≡ element_rep c array) (type_of t) (types_of (terms trees))
    (element_is_kept c array (type_of t) (All-head (λ a. IsElementOf c array (type_of a)) t trees all))
    (elements_kept c array trees (All-tail (λ a. IsElementOf c array (type_of a)) t trees all))
