-- Exact matches by the places that a mask marks.
use Rattle.std.specs.Prelude.{List, Result, Ok, Err}
use Rattle.xp_candidates.specs.inner.Marked.{candidate_at}
use Rattle.xp_candidates.specs.declared.candidate.Candidate.{Candidate}
use Rattle.xp_candidates.specs.declared.marked.Marked.{Marked}
use Rattle.xp_candidates.specs.declared.marked.Marked.TheVariants.{Nothing, One, Several}
use Rattle.xp_candidates.specs.declared.pick.Pick.{Pick}
use Rattle.xp_candidates.specs.declared.pick.Pick.TheVariants.{Ambiguous}
use Rattle.xp_func.specs.declared.pick.PickedFunc.{PickedFunc}
use Rattle.xp_func.specs.declared.pick.PickedFunc.TheVariants.{Call}

-- what step 2 comes to where these are marked
abbrev pub exact_at : List Candidate → Marked → Result PickedFunc Pick → Result PickedFunc Pick
exact_at candidates Nothing choice = choice
exact_at candidates (One place) choice = Ok (Call (candidate_at candidates place).row (candidate_at candidates place).expanded)
exact_at candidates (Several first second) choice = Err (Ambiguous (candidate_at candidates first).row (candidate_at candidates second).row)
