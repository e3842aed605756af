use Rattle.std.proofs.Common.{◌≡◌, ◌+◌, ◌*◌, drop, max}
use Rattle.xp_tree.specs.Term.{terms}
use Rattle.xp_tree.specs.View.{arms_of}
use Rattle.xp_tree.specs.inner.Heights.{height, height_all, height_arms}
use Rattle.xp_meaning.specs.Early.{early, early_all, early_arms, early_first}
use Rattle.xp_eval.specs.Real.{first_raised, real}
use Rattle.xp_eval.proofs.constants.+early.Given as goal

abbrev pub decreases-first_of : goal.decreases-first_of
decreases-first_of l = 3 * height l.t.now

abbrev pub decreases-first_of_both : goal.decreases-first_of_both
decreases-first_of_both l = 3 * max (height l.a.now) (height l.b.now) + 1

abbrev pub decreases-first_unless : goal.decreases-first_unless
decreases-first_unless l = 3 * max (height l.a.now) (height l.b.now) + 1

abbrev pub decreases-first_of_all : goal.decreases-first_of_all
decreases-first_of_all l = 3 * height_all (terms l.trees.now) + 1

abbrev pub decreases-first_of_choice : goal.decreases-first_of_choice
decreases-first_of_choice l = 3 * height_all (terms l.trees.now) + 1

abbrev pub decreases-first_of_arms : goal.decreases-first_of_arms
decreases-first_of_arms l = 3 * max (height_arms (arms_of l.arms.now)) (height l.otherwise.now) + 2

abbrev pub invariant-first_of_all-trees : goal.invariant-first_of_all-trees
invariant-first_of_all-trees l = first_raised (early_all real (terms (drop l.tree-index l.trees))) ≡ first_raised (early_all real (terms l.trees))

abbrev pub invariant-first_of_choice-trees : goal.invariant-first_of_choice-trees
invariant-first_of_choice-trees l = first_raised (early_first real (terms (drop l.tree-index l.trees))) ≡ first_raised (early_first real (terms l.trees))

abbrev pub invariant-first_of_arms-arms : goal.invariant-first_of_arms-arms
invariant-first_of_arms-arms l =
    first_raised (early_arms real (arms_of (drop l.arm-index l.arms)) (early real l.otherwise)) ≡ first_raised (early_arms real (arms_of l.arms) (early real l.otherwise))
