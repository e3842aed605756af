use Rattle.std.proofs.Common.{◌≡◌, take}
use Rattle.std.specs.Prelude.{map}
use Rattle.xp_candidates.specs.Accepted.{takes}
use Rattle.xp_candidates.proofs.accepted.mark_taking.Given as goal

-- the marks so far
abbrev pub invariant-loop-candidate : goal.invariant-loop-candidate
invariant-loop-candidate l = l.marks.items ≡ map (takes l.c l.variadic l.inputs) (take l.candidate-index l.candidates)
