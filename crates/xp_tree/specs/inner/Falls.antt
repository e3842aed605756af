-- Each child is lower than its parent.
use Rattle.std.specs.Prelude.{◌+◌, ◌*◌, max, List, [], ◌∷◌, ◌≤◌, Some, None}
use Rattle.std.proofs.Common.{arith}
use Rattle.xp_tree.specs.declared.node.Node.{Node}
use Rattle.xp_tree.specs.declared.node.Node.TheVariants as node
use Rattle.xp_tree.specs.declared.node.CaseArm.{CaseArm}
use Rattle.xp_tree.specs.Term.{Term, terms}
use Rattle.xp_tree.specs.inner.Heights.{height, height_all, height_arms}
use Rattle.xp_tree.specs.View.{term_of, arms_of}
use Rattle.xp_tree.specs.declared.tree.Tree.TheDeep.{deep-Node, deep-CaseArm}
use denote.Param.Weighed.{most}

most_trees : (args : List Term) → most (λ y. 5 * height y + 1) args ≤ 5 * height_all (terms args) + 1
most_trees [] = omega arith
most_trees (a ∷ args) = omega (arith, most_trees args)

most_arms : (arms : List CaseArm) → most deep-CaseArm arms ≤ 5 * height_arms (arms_of arms) + 1
most_arms [] = omega arith
most_arms (a ∷ arms) = omega (arith, most_arms arms)

pub depth_le_height : (n : Node) → max (deep-Node n) 0 ≤ 5 * height (term_of n)
depth_le_height (node.Constant value ty) = omega arith
depth_le_height (node.Column number name ty) = omega arith
depth_le_height (node.Given ty) = omega arith
depth_le_height (node.Call callee args ty) = omega (arith, most_trees args)
depth_le_height (node.Output arg ty) = omega arith
depth_le_height (node.Input arg ty) = omega arith
depth_le_height (node.Relabel arg ty) = omega arith
depth_le_height (node.Elements arg way ty) = omega arith
depth_le_height (node.Sizing arg modifier cut ty) = omega arith
depth_le_height (node.Domain arg row not_null None ty) = omega arith
depth_le_height (node.Domain arg row not_null (Some check) ty) = omega arith
depth_le_height (node.And left right ty) = omega arith
depth_le_height (node.Or left right ty) = omega arith
depth_le_height (node.Not arg ty) = omega arith
depth_le_height (node.IsNull arg ty) = omega arith
depth_le_height (node.IsTrue arg ty) = omega arith
depth_le_height (node.IsFalse arg ty) = omega arith
depth_le_height (node.IsUnknown arg ty) = omega arith
depth_le_height (node.Case arms otherwise ty) = omega (arith, most_arms arms)
depth_le_height (node.Coalesce args ty) = omega (arith, most_trees args)
depth_le_height (node.Greatest args ty) = omega (arith, most_trees args)
depth_le_height (node.Least args ty) = omega (arith, most_trees args)
depth_le_height (node.Array args ty) = omega (arith, most_trees args)
depth_le_height (node.NullIf callee left right ty) = omega arith
depth_le_height (node.Distinct callee left right ty) = omega arith
depth_le_height (node.Subscript array index ty) = omega arith
