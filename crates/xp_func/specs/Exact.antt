-- The functions that accept exactly the types of the arguments (manual 10.3 step 2).
use Rattle.std.specs.Prelude.{List, Bool, ◌&&◌, filter}
use Rattle.std.specs.List.{list_all}
use Rattle.xp_base.specs.declared.numbers.TypeNo.{TypeNo}
use Rattle.xp_catalog.specs.Lookups.{same_types}
use Rattle.xp_types.specs.Readers.{is_known}
use Rattle.xp_candidates.specs.declared.candidate.Candidate.{Candidate}

-- an exact match never involves `unknown`
abbrev pub is_exact : List TypeNo → Candidate → Bool
is_exact inputs candidate = list_all is_known inputs && same_types candidate.declared inputs

-- "check for a function accepting exactly the input argument types"
abbrev pub exact : List TypeNo → List Candidate → List Candidate
exact inputs candidates = filter (is_exact inputs) candidates
