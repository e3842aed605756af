-- Lists of candidates, record by record (manual 10.2 step 1, 10.3 step 1).
use Rattle.std.specs.Prelude.{ℕ, ◌+◌, List, [], ◌∷◌, ◌++◌}
use Rattle.xp_candidates.specs.declared.candidate.Candidate.{Candidate}

-- what the rows give in their order, each by its place, where the first stands at that place
abbrev pub forms_from : {Row : Type 0} → (ℕ → Row → List Candidate) → ℕ → List Row → List Candidate
forms_from forms place [] = []
forms_from forms place (row ∷ rows) = forms place row ++ forms_from forms (place + 1) rows
