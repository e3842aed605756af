use Rattle.std.proofs.Common.{◌≡◌, ◌+◌, ◌*◌, ◌++◌, drop, max, Ok}
use Rattle.xp_base.specs.FromLeft.{and_then}
use Rattle.xp_tree.specs.Term.{terms}
use Rattle.xp_tree.specs.View.{arms_of}
use Rattle.xp_tree.specs.inner.Heights.{height, height_all, height_arms}
use Rattle.xp_meaning.specs.Meaning.{arm_outcome, first_outcome, outcome, outcomes}
use Rattle.xp_value.specs.declared.value.Value.TheVariants as value
use Rattle.xp_eval.specs.Real.{real}
use Rattle.xp_eval.specs.inner.Choices.{wins}
use Rattle.xp_eval.proofs.Chosen.{best_of}
use Rattle.xp_eval.proofs.+eval.Given as goal

abbrev pub decreases-walk::eval_given : goal.decreases-walk::eval_given
decreases-walk::eval_given l = 3 * height l.t.now

abbrev pub decreases-walk::eval_check : goal.decreases-walk::eval_check
decreases-walk::eval_check l = 3 * height l.check.now + 1

abbrev pub decreases-walk::eval_each : goal.decreases-walk::eval_each
decreases-walk::eval_each l = 3 * height_all (terms l.trees.now) + 1

abbrev pub decreases-walk::eval_call : goal.decreases-walk::eval_call
decreases-walk::eval_call l = 3 * height_all (terms l.args.now) + 2

abbrev pub decreases-connectives::eval_and : goal.decreases-connectives::eval_and
decreases-connectives::eval_and l = 3 * max (height l.left.now) (height l.right.now) + 1

abbrev pub decreases-connectives::eval_or : goal.decreases-connectives::eval_or
decreases-connectives::eval_or l = 3 * max (height l.left.now) (height l.right.now) + 1

abbrev pub decreases-connectives::eval_null_if : goal.decreases-connectives::eval_null_if
decreases-connectives::eval_null_if l = 3 * max (height l.left.now) (height l.right.now) + 1

abbrev pub decreases-connectives::eval_distinct : goal.decreases-connectives::eval_distinct
decreases-connectives::eval_distinct l = 3 * max (height l.left.now) (height l.right.now) + 1

abbrev pub decreases-choices::eval_case : goal.decreases-choices::eval_case
decreases-choices::eval_case l = 3 * max (height_arms (arms_of l.arms.now)) (height l.otherwise.now) + 1

abbrev pub decreases-choices::eval_coalesce : goal.decreases-choices::eval_coalesce
decreases-choices::eval_coalesce l = 3 * height_all (terms l.trees.now) + 1

abbrev pub decreases-choices::eval_extreme : goal.decreases-choices::eval_extreme
decreases-choices::eval_extreme l = 3 * height_all (terms l.trees.now) + 1

-- the values so far, and what the other trees give, are what all give
abbrev pub invariant-walk::eval_each-trees : goal.invariant-walk::eval_each-trees
invariant-walk::eval_each-trees l =
    and_then (outcomes real l.row l.given (terms (drop l.tree-index l.trees))) (λ rest. Ok (l.values ++ rest)) ≡ outcomes real l.row l.given (terms l.trees)

-- no arm so far was taken
abbrev pub invariant-choices::eval_case-arms : goal.invariant-choices::eval_case-arms
invariant-choices::eval_case-arms l =
    arm_outcome real l.row l.given (arms_of (drop l.arm-index l.arms)) (outcome real l.row l.given l.otherwise) ≡ arm_outcome real l.row l.given (arms_of l.arms) (outcome real l.row l.given l.otherwise)

-- each value so far was null
abbrev pub invariant-choices::eval_coalesce-trees : goal.invariant-choices::eval_coalesce-trees
invariant-choices::eval_coalesce-trees l = first_outcome real l.row l.given (terms (drop l.tree-index l.trees)) ≡ first_outcome real l.row l.given (terms l.trees)

-- the best so far, and what the other trees give
abbrev pub invariant-choices::eval_extreme-trees : goal.invariant-choices::eval_extreme-trees
invariant-choices::eval_extreme-trees l =
    best_of (wins l.greatest) l.best (outcomes real l.row l.given (terms (drop l.tree-index l.trees))) ≡ best_of (wins l.greatest) value.Null (outcomes real l.row l.given (terms l.trees))
