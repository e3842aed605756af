use Rattle.std.proofs.Common.{◌≡◌, ◌++◌, length, map, reverse}
use Rattle.xp_analyse.specs.Statements.{typed_of}
use Rattle.xp_analyse.proofs.ready.typed_of.Given as goal

-- the arms so far, and those of the other lists, are all
abbrev pub invariant-loop-trees : goal.invariant-loop-trees
invariant-loop-trees l = l.arms ++ map (λ trees. record { trees = trees; over_rows = l.over_rows }) (reverse l.left) ≡ (typed_of l.over_rows l.fn.uses l.fn.lists).arms

abbrev pub decreases-loop-trees : goal.decreases-loop-trees
decreases-loop-trees l = length l.left
