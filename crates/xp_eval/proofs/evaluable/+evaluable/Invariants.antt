use Rattle.std.proofs.Common.{◌≡◌, drop, ◌+◌, ◌*◌}
use Rattle.xp_tree.specs.Term.{terms}
use Rattle.xp_tree.specs.View.{arms_of}
use Rattle.xp_tree.specs.inner.Heights.{height, height_all, height_arms}
use Rattle.xp_call.specs.Calls.{is_built}
use Rattle.xp_meaning.specs.Evaluable as spec
use Rattle.xp_eval.proofs.evaluable.+evaluable.Given as goal

-- the rest decides
abbrev pub invariant-all_evaluable-trees : goal.invariant-all_evaluable-trees
invariant-all_evaluable-trees l = spec.all_evaluable is_built (terms (drop l.tree-index l.trees)) ≡ spec.all_evaluable is_built (terms l.trees)

abbrev pub invariant-arms_evaluable-arms : goal.invariant-arms_evaluable-arms
invariant-arms_evaluable-arms l = spec.arms_evaluable is_built (arms_of (drop l.arm-index l.arms)) ≡ spec.arms_evaluable is_built (arms_of l.arms)

abbrev pub decreases-is_evaluable : goal.decreases-is_evaluable
decreases-is_evaluable l = 2 * height l.tree.now

abbrev pub decreases-all_evaluable : goal.decreases-all_evaluable
decreases-all_evaluable l = 2 * height_all (terms l.trees.now) + 1

abbrev pub decreases-arms_evaluable : goal.decreases-arms_evaluable
decreases-arms_evaluable l = 2 * height_arms (arms_of l.arms.now) + 1
