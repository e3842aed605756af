-- Candidates by their places, as the code's masks mark them.
use Rattle.std.specs.Prelude.{◌≡◌, ◌<◌, ℕ, List, [], ◌∷◌, true, map, slice_index_or, Result, Err}
use Rattle.xp_base.specs.declared.numbers.TypeNo.{TypeNo}
use Rattle.xp_catalog.specs.Contents.{Contents}
use Rattle.xp_poly.specs.Acceptance.{accepts}
use Rattle.xp_candidates.specs.Chosen.{picked}
use Rattle.xp_candidates.specs.declared.candidate.Candidate.{Candidate}
use Rattle.xp_candidates.specs.declared.marked.Marked.{Marked}
use Rattle.xp_candidates.specs.declared.marked.Marked.TheVariants.{Nothing, One, Several}
use Rattle.xp_candidates.specs.declared.pick.Picked.{Picked}
use Rattle.xp_candidates.specs.declared.pick.Pick.{Pick}
use Rattle.xp_candidates.specs.declared.pick.Pick.TheVariants.{Undefined, Ambiguous}

-- stands at places that no candidate has
abbrev pub nobody : Candidate
nobody = record { row = record { 0 = 0 }; declared = []; result_type = record { 0 = 0 }; expanded = 0 }

abbrev pub candidate_at : List Candidate → ℕ → Candidate
candidate_at candidates place = slice_index_or candidates place nobody

-- the candidates at these places
abbrev pub those : List Candidate → List ℕ → List Candidate
those candidates places = map (candidate_at candidates) places

-- whether none, one or more places are in a list, with the first two
abbrev pub first_two : List ℕ → Marked
first_two [] = Nothing
first_two (place ∷ []) = One place
first_two (first ∷ second ∷ places) = Several first second

-- the places are below the count
abbrev pub IsWithin : ℕ → Marked → Type 0
IsWithin count Nothing = Unit {0}
IsWithin count (One place) = place < count
IsWithin count (Several first second) = (first < count) × (second < count)

-- what the choice comes to where these are left
abbrev pub outcome_at : Contents → List TypeNo → List Candidate → Marked → Result Picked Pick
outcome_at c inputs candidates Nothing = Err Undefined
outcome_at c inputs candidates (One place) = picked c inputs (candidate_at candidates place)
outcome_at c inputs candidates (Several first second) = Err (Ambiguous (candidate_at candidates first).row (candidate_at candidates second).row)

-- the one that is marked accepts the inputs
abbrev pub AcceptsOne : Contents → List TypeNo → List Candidate → Marked → Type 0
AcceptsOne c inputs candidates (One place) = accepts c (candidate_at candidates place).declared inputs ≡ true
AcceptsOne c inputs candidates _ = Unit {0}
