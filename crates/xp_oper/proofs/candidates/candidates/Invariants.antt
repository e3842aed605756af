use Rattle.std.proofs.Common.{◌≡◌, ◌<◌, ◌++◌, drop, length}
use Rattle.std.specs.List.{All}
use Rattle.xp_candidates.specs.Accepted.{IsCandidate}
use Rattle.xp_candidates.specs.Forms.{forms_from}
use Rattle.xp_oper.specs.Candidates.{candidates, form_of}
use Rattle.xp_oper.proofs.candidates.candidates.Given as goal

-- those so far, and those among the operators from here on
abbrev pub invariant-loop-number : goal.invariant-loop-number
invariant-loop-number l = record {
  list : l.candidates.items ++ forms_from (form_of l.c l.name l.count) l.number (drop l.number l.c.opers) ≡ candidates l.c l.name l.count;
  known : All (IsCandidate l.c l.count) l.candidates.items;
  rows : All (λ candidate. candidate.row.0 < length l.c.opers) l.candidates.items;
}
