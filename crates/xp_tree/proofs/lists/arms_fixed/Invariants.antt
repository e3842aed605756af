use Rattle.std.proofs.Common.{◌≡◌, drop}
use Rattle.xp_tree.specs.Term.{arms_fixed}
use Rattle.xp_tree.specs.View.{arms_of}
use Rattle.xp_tree.proofs.lists.arms_fixed.Given as goal

-- the rest decides
abbrev pub invariant-loop-arm : goal.invariant-loop-arm
invariant-loop-arm l = arms_fixed (arms_of (drop l.arm-index l.arms)) ≡ arms_fixed (arms_of l.arms)
