use Rattle.std.proofs.Common.{◌≡◌, ◌≤◌, ◌++◌, drop, length}
use Rattle.xp_tree.proofs.copies.push_all.Given as goal

-- the trees behind this place lie on the stack
abbrev pub invariant-trees : goal.invariant-trees
invariant-trees l = (l.left ≤ length l.trees) × (l.waiting ≡ drop l.left l.trees ++ l.initial.waiting)

abbrev pub decreases-trees : goal.decreases-trees
decreases-trees l = l.left
