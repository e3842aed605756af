use Rattle.std.proofs.Common.{◌≡◌, drop}
use Rattle.xp_tree.specs.Term.{terms, all_fixed}
use Rattle.xp_tree.proofs.lists.all_fixed.Given as goal

-- the rest decides
abbrev pub invariant-loop-tree : goal.invariant-loop-tree
invariant-loop-tree l = all_fixed (terms (drop l.tree-index l.trees)) ≡ all_fixed (terms l.trees)
