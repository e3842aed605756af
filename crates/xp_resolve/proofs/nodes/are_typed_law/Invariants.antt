use Rattle.std.proofs.Common.{ℕ, ◌<◌, get_or}
use Rattle.xp_tree.specs.Term.{Term}
use Rattle.xp_tree.specs.Typed.{IsTyped}
use Rattle.xp_resolve.proofs.nodes.are_typed_law.Given as goal

abbrev pub invariant-loop-t : goal.invariant-loop-t
invariant-loop-t l = (k : ℕ) (d : Term) → k < l.t-index → IsTyped (get_or l.trees k d)
