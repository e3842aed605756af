use Rattle.std.proofs.Common.{◌≡◌, drop}
use Rattle.xp_eval.specs.Real.{first_raised}
use Rattle.xp_run.specs.Answer.{early_parts}
use Rattle.xp_run.proofs.arms.first_early.Given as goal

-- the rest raises what all do
abbrev pub invariant-loop-arm : goal.invariant-loop-arm
invariant-loop-arm l = first_raised (early_parts (drop l.arm-index l.arms)) ≡ first_raised (early_parts l.arms)
