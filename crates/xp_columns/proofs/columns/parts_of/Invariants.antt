use Rattle.std.proofs.Common.{◌≡◌, ◌++◌, length, reverse}
use Rattle.xp_columns.specs.Columns.{parts_of}
use Rattle.xp_columns.proofs.columns.parts_of.Given as goal

-- the items so far, and those of the other trees, are all
abbrev pub invariant-loop-tree : goal.invariant-loop-tree
invariant-loop-tree l = l.parts ++ parts_of l.at (reverse l.left) ≡ parts_of l.at l.fn.trees

abbrev pub decreases-loop-tree : goal.decreases-loop-tree
decreases-loop-tree l = length l.left
