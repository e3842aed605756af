-- That nodes over truth values have what they ask for.
use Rattle.std.proofs.Common.{◌≡◌}
use Rattle.xp_tree.specs.declared.parts.NodeType.{NodeType}
use Rattle.xp_tree.specs.Term.{Term, conjunction, disjunction, negation, one, two, type_of}
use Rattle.xp_tree.specs.Typed.{IsBool, IsTyped}

is_truth : (t : Term) (ty : NodeType) → IsBool ty → type_of t ≡ ty → IsBool (type_of t)
is_truth t ty kept is = rw is kept

pub and_fits : (left right : Term) (ty : NodeType) → IsBool ty → type_of left ≡ ty → type_of right ≡ ty → IsTyped left → IsTyped right → IsTyped (two conjunction left right ty)
and_fits left right ty kept l r a b = ((is_truth left ty kept l, is_truth right ty kept r, kept), a, b)

pub or_fits : (left right : Term) (ty : NodeType) → IsBool ty → type_of left ≡ ty → type_of right ≡ ty → IsTyped left → IsTyped right → IsTyped (two disjunction left right ty)
or_fits left right ty kept l r a b = ((is_truth left ty kept l, is_truth right ty kept r, kept), a, b)

pub not_fits : (t : Term) (ty : NodeType) → IsBool ty → type_of t ≡ ty → IsTyped t → IsTyped (one negation t ty)
not_fits t ty kept is a = ((is_truth t ty kept is, kept), a)
