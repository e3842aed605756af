use Rattle.std.proofs.Common.{◌≡◌, drop, min, ◌^◌, ◌-◌, ◌≤◌, ◌+◌}
use Rattle.xp_tree.specs.Term.{terms, size_all}
use Rattle.xp_tree.proofs.lists.size_all.Given as goal

-- the sum so far and the sizes of the rest are those of all
abbrev pub invariant-loop-tree : goal.invariant-loop-tree
invariant-loop-tree l = record { same : min (l.sum + size_all (terms (drop l.tree-index l.trees))) (2 ^ 64 - 1) ≡ min (size_all (terms l.trees)) (2 ^ 64 - 1); fits : l.sum ≤ 2 ^ 64 - 1 }
