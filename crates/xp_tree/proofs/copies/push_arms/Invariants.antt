use Rattle.std.proofs.Common.{◌≡◌, ◌≤◌, ◌++◌, drop, length}
use Rattle.xp_tree.specs.View.{arms_of}
use Rattle.xp_tree.specs.inner.Order.{list_of_arms}
use Rattle.xp_tree.proofs.copies.push_arms.Given as goal

-- the trees of the arms behind this place lie on the stack
abbrev pub invariant-arms : goal.invariant-arms
invariant-arms l = (l.left ≤ length l.arms) × (l.waiting ≡ list_of_arms (arms_of (drop l.left l.arms)) ++ l.initial.waiting)

abbrev pub decreases-arms : goal.decreases-arms
decreases-arms l = l.left
