use Rattle.std.proofs.Common.{[], ◌∷◌}
use Rattle.xp_tree.specs.Term.{terms, size_all}
use Rattle.xp_tree.specs.inner.Order.{Leads}
use Rattle.xp_tree.proofs.copies.parents_first.Given as goal

abbrev pub invariant-waiting : goal.invariant-waiting
invariant-waiting l = Leads l.listed (l.tree ∷ []) l.waiting

-- the nodes of the trees that wait
abbrev pub decreases-waiting : goal.decreases-waiting
decreases-waiting l = size_all (terms l.waiting)
