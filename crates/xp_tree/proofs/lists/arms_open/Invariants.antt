use Rattle.std.proofs.Common.{◌≡◌, drop}
use Rattle.xp_tree.specs.Term.{arms_open}
use Rattle.xp_tree.specs.View.{arms_of}
use Rattle.xp_tree.proofs.lists.arms_open.Given as goal

-- the rest decides
abbrev pub invariant-loop-arm : goal.invariant-loop-arm
invariant-loop-arm l = arms_open (arms_of (drop l.arm-index l.arms)) ≡ arms_open (arms_of l.arms)
