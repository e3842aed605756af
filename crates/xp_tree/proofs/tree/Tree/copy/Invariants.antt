use Rattle.std.proofs.Common.{[], ◌∷◌, length}
use Rattle.xp_tree.specs.inner.Order.{Leads}
use Rattle.xp_tree.proofs.tree.Tree.copy.Given as goal

abbrev pub invariant-listed : goal.invariant-listed
invariant-listed l = Leads l.listed (l.self ∷ []) l.made

abbrev pub decreases-listed : goal.decreases-listed
decreases-listed l = length l.listed
