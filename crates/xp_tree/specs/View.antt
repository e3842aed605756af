-- A tree, by the node at its top.
use Rattle.std.specs.Prelude.{Bool, List, [], ◌∷◌, Option, Some, None}
use Rattle.xp_base.specs.declared.numbers.RowNo.{RowNo}
use Rattle.xp_tree.specs.declared.parts.NodeType.{NodeType}
use Rattle.xp_tree.specs.declared.node.Node.{Node}
use Rattle.xp_tree.specs.declared.node.Node.TheVariants as node
use Rattle.xp_tree.specs.declared.node.CaseArm.{CaseArm}
use Rattle.xp_tree.specs.Term.{Term, Arms, constant, column, given, output, input, relabel, elements, sizing, negation, is_null, is_true, is_false, is_unknown, conjunction, disjunction, null_if, distinct, subscript, call, coalesce, greatest, least, array, leaf, one, two, many, case, domain, checked, no_arm, arm, terms}

abbrev pub arms_of : List CaseArm → Arms
arms_of [] = no_arm
arms_of (a ∷ rest) = arm a.condition a.result (arms_of rest)

-- a domain's node, with its check where it has one
abbrev pub checked_by : Term → RowNo → Bool → Option Term → NodeType → Term
checked_by arg row not_null None ty = domain arg row not_null ty
checked_by arg row not_null (Some check) ty = checked arg row not_null check ty

abbrev pub term_of : Node → Term
term_of (node.Constant value ty) = leaf (constant value) ty
term_of (node.Column number name ty) = leaf (column number name) ty
term_of (node.Given ty) = leaf given ty
term_of (node.Call callee args ty) = many (call callee) (terms args) ty
term_of (node.Output arg ty) = one output arg ty
term_of (node.Input arg ty) = one input arg ty
term_of (node.Relabel arg ty) = one relabel arg ty
term_of (node.Elements arg way ty) = one (elements way) arg ty
term_of (node.Sizing arg modifier cut ty) = one (sizing modifier cut) arg ty
term_of (node.Domain arg row not_null check ty) = checked_by arg row not_null check ty
term_of (node.And left right ty) = two conjunction left right ty
term_of (node.Or left right ty) = two disjunction left right ty
term_of (node.Not arg ty) = one negation arg ty
term_of (node.IsNull arg ty) = one is_null arg ty
term_of (node.IsTrue arg ty) = one is_true arg ty
term_of (node.IsFalse arg ty) = one is_false arg ty
term_of (node.IsUnknown arg ty) = one is_unknown arg ty
term_of (node.Case arms otherwise ty) = case (arms_of arms) otherwise ty
term_of (node.Coalesce args ty) = many coalesce (terms args) ty
term_of (node.Greatest args ty) = many greatest (terms args) ty
term_of (node.Least args ty) = many least (terms args) ty
term_of (node.Array args ty) = many array (terms args) ty
term_of (node.NullIf callee left right ty) = two (null_if callee) left right ty
term_of (node.Distinct callee left right ty) = two (distinct callee) left right ty
term_of (node.Subscript of index ty) = two subscript of index ty
