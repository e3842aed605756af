use Rattle.std.proofs.Common.{◌≡◌, take}
use Rattle.std.specs.Prelude.{map}
use Rattle.xp_candidates.specs.Slots.{slots_of}
use Rattle.xp_candidates.proofs.slots.all_slots.Given as goal

-- the slots so far
abbrev pub invariant-loop-candidate : goal.invariant-loop-candidate
invariant-loop-candidate l = l.list.items ≡ map (λ candidate. slots_of l.c candidate.declared) (take l.candidate-index l.candidates)
