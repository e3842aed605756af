use Rattle.std.proofs.Common.{◌≡◌, ◌++◌, drop}
use Rattle.xp_analyse.specs.Statements.{types_of}
use Rattle.xp_analyse.proofs.ready.types_of.Given as goal

-- the types so far, and those of the rest
abbrev pub invariant-loop-tree : goal.invariant-loop-tree
invariant-loop-tree l = l.types ++ types_of (drop l.tree-index l.trees) ≡ types_of l.trees
