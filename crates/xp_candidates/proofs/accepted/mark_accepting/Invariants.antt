use Rattle.std.proofs.Common.{◌≡◌, take}
use Rattle.std.specs.Prelude.{map}
use Rattle.xp_poly.specs.Acceptance.{accepts}
use Rattle.xp_candidates.proofs.accepted.mark_accepting.Given as goal

-- the marks so far
abbrev pub invariant-loop-candidate : goal.invariant-loop-candidate
invariant-loop-candidate l = l.marks.items ≡ map (λ candidate. accepts l.c candidate.declared l.types) (take l.candidate-index l.candidates)
