use Rattle.std.proofs.Common.{◌≡◌, drop, min, ◌^◌, ◌-◌, ◌≤◌, ◌+◌}
use Rattle.xp_tree.specs.Term.{size_arms}
use Rattle.xp_tree.specs.View.{arms_of}
use Rattle.xp_tree.proofs.lists.size_arms.Given as goal

-- the sum so far and the sizes of the rest are those of all
abbrev pub invariant-loop-arm : goal.invariant-loop-arm
invariant-loop-arm l = record { same : min (l.sum + size_arms (arms_of (drop l.arm-index l.arms))) (2 ^ 64 - 1) ≡ min (size_arms (arms_of l.arms)) (2 ^ 64 - 1); fits : l.sum ≤ 2 ^ 64 - 1 }
