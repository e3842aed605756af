use Rattle.std.proofs.Common.{◌≡◌, drop}
use Rattle.xp_tree.specs.Term.{terms, some_open}
use Rattle.xp_tree.proofs.lists.any_open.Given as goal

-- the rest decides
abbrev pub invariant-loop-tree : goal.invariant-loop-tree
invariant-loop-tree l = some_open (terms (drop l.tree-index l.trees)) ≡ some_open (terms l.trees)
