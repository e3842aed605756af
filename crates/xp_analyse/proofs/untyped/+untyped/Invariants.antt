use Rattle.std.proofs.Common.{◌≡◌, drop, map}
use Rattle.xp_analyse.specs.Untyped as spec
use Rattle.xp_analyse.specs.inner.Untyped.{arm_left}
use Rattle.xp_analyse.proofs.untyped.+untyped.Given as goal

-- the rest decides
abbrev pub invariant-left_of_all-parts : goal.invariant-left_of_all-parts
invariant-left_of_all-parts l = spec.first_of_all (map spec.untyped (drop l.part-index l.parts)) ≡ spec.first_of_all (map spec.untyped l.parts)

abbrev pub invariant-left_of_arms-arms : goal.invariant-left_of_arms-arms
invariant-left_of_arms-arms l = spec.first_of_all (map arm_left (drop l.arm-index l.arms)) ≡ spec.first_of_all (map arm_left l.arms)
