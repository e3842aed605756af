use Rattle.std.proofs.Common.{◌≡◌, drop}
use Rattle.xp_func.specs.Candidates.{is_covered}
use Rattle.xp_func.proofs.candidates.is_covered.Given as goal

-- those from here on answer as all do
abbrev pub invariant-loop-other : goal.invariant-loop-other
invariant-loop-other l = is_covered (drop l.other-index l.plain) l.candidate ≡ is_covered l.plain l.candidate
