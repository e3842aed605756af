use Rattle.std.proofs.Common.{◌≡◌, take}
use Rattle.xp_candidates.specs.Slots.{slots_of}
use Rattle.xp_candidates.proofs.slots.slots_of.Given as goal

-- the slots so far
abbrev pub invariant-loop-ty : goal.invariant-loop-ty
invariant-loop-ty l = l.slots ≡ slots_of l.c (take l.ty-index l.types)
