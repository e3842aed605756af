use Rattle.std.proofs.Common.{◌≡◌, drop}
use Rattle.xp_types.specs.Common.{candidate_of, considered}
use Rattle.xp_types.specs.Within.{IsType}
use Rattle.xp_types.proofs.common_type.candidate_of.Given as goal

-- the candidate and the types from here on come to what the first and all others come to
abbrev pub invariant-loop-other : goal.invariant-loop-other
invariant-loop-other l = record {
  within : IsType l.c l.candidate;
  rest : candidate_of l.c l.candidate (considered l.c (drop l.other-index l.others)) ≡ candidate_of l.c l.fn.first (considered l.c l.others);
}
