use Rattle.std.proofs.Common.{◌≡◌, ◌<◌, ◌++◌, drop, length}
use Rattle.std.specs.List.{All}
use Rattle.xp_candidates.specs.Accepted.{IsCandidate}
use Rattle.xp_candidates.specs.Forms.{forms_from}
use Rattle.xp_func.specs.Candidates.{named_forms}
use Rattle.xp_func.proofs.candidates.forms.Given as goal

-- those so far, and those among the functions from here on
abbrev pub invariant-loop-number : goal.invariant-loop-number
invariant-loop-number l = record {
  list : l.candidates.items ++ forms_from (named_forms l.c l.name l.count l.plain) l.number (drop l.number l.c.funcs) ≡ forms_from (named_forms l.c l.name l.count l.plain) 0 l.c.funcs;
  known : All (IsCandidate l.c l.count) l.candidates.items;
  rows : All (λ candidate. candidate.row.0 < length l.c.funcs) l.candidates.items;
}
