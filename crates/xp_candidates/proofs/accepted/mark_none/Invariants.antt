use Rattle.std.proofs.Common.{◌≡◌, false, take}
use Rattle.std.specs.Prelude.{map}
use Rattle.xp_candidates.proofs.accepted.mark_none.Given as goal

-- the marks so far
abbrev pub invariant-loop-candidate : goal.invariant-loop-candidate
invariant-loop-candidate l = l.marks.items ≡ map (λ candidate. false) (take l._candidate-index l.candidates)
