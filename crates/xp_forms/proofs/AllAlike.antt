-- Trees that all are converted to one type.
use Rattle.std.proofs.Common.{◌≡◌, ◌<◌, List, [], ◌∷◌, length, refl, arith}
use Rattle.std.specs.List.{All}
use Rattle.std.proofs.lemmas.List.Elements.{All-cons, All-head, All-nil, All-tail}
use Rattle.xp_base.specs.declared.numbers.TypeNo.{TypeNo}
use Rattle.xp_catalog.specs.Contents.{Contents}
use Rattle.xp_tree.specs.Term.{Term, terms, type_of}
use Rattle.xp_tree.specs.Typed.{AreAlike, types_of}
use Rattle.xp_types.specs.Within.{IsType}
use Rattle.xp_coerce.specs.Types.{node_type}
use Rattle.xp_resolve.specs.declared.made.Part.{Part}
use Rattle.xp_resolve.specs.declared.targets.Target.TheVariants as target
use Rattle.xp_resolve.specs.inner.Sources.{AreOf, IsTarget}
use Rattle.xp_forms.specs.Common.{each_of}

-- each is of the type that all are asked for
pub alike_typed : (c : Contents) (type : TypeNo) (parts : List Part) (trees : List Term) → AreOf c (each_of type parts) trees → All (λ t. type_of t ≡ node_type c type) trees
alike_typed c type [] [] is = All-nil (λ t. type_of t ≡ node_type c type)
alike_typed c type [] (t ∷ trees) is = absurd (cc is)
alike_typed c type (part ∷ parts) [] is = absurd (cc is)
alike_typed c type (part ∷ parts) (t ∷ trees) is =
    let first : type_of t ≡ node_type c type = cc is in
    let rest : AreOf c (each_of type parts) trees = cc is in
    All-cons (λ a. type_of a ≡ node_type c type) t trees first (alike_typed c type parts trees rest)

pub alike_many : (c : Contents) (type : TypeNo) (parts : List Part) (trees : List Term) → AreOf c (each_of type parts) trees → length trees ≡ length parts
alike_many c type [] [] is = refl
alike_many c type [] (t ∷ trees) is = absurd (cc is)
alike_many c type (part ∷ parts) [] is = absurd (cc is)
alike_many c type (part ∷ parts) (t ∷ trees) is =
    let rest : AreOf c (each_of type parts) trees = cc is in
    let own : length trees ≡ length parts = alike_many c type parts trees rest in
    omega arith

pub as_many_targets : (type : TypeNo) (parts : List Part) → length (each_of type parts) ≡ length parts
as_many_targets type [] = refl
as_many_targets type (part ∷ parts) = let own = as_many_targets type parts in omega arith

pub all_targets : (c : Contents) (type : TypeNo) (parts : List Part) → IsType c type → All (IsTarget c) (each_of type parts)
all_targets c type [] within = All-nil (IsTarget c)
all_targets c type (part ∷ parts) within = All-cons (IsTarget c) (target.Of type) (each_of type parts) within (all_targets c type parts within)

-- the node over them has what it asks for
each_alike : (c : Contents) (type : TypeNo) (trees : List Term) → All (λ t. type_of t ≡ node_type c type) trees → All (λ b. b ≡ node_type c type) (types_of (terms trees))
each_alike c type [] all = All-nil (λ b. b ≡ node_type c type)
each_alike c type (t ∷ trees) all =
    All-cons (λ b. b ≡ node_type c type) (type_of t) (types_of (terms trees)) (All-head (λ a. type_of a ≡ node_type c type) t trees all) (each_alike c type trees (All-tail (λ a. type_of a ≡ node_type c type) t trees all))

pub are_alike : (c : Contents) (type : TypeNo) (trees : List Term) → 0 < length trees → All (λ t. type_of t ≡ node_type c type) trees → AreAlike (types_of (terms trees)) (node_type c type)
are_alike c type [] some all = omega arith
are_alike c type (t ∷ trees) some all = (All-head (λ a. type_of a ≡ node_type c type) t trees all, each_alike c type trees (All-tail (λ a. type_of a ≡ node_type c type) t trees all))
