-- The function that a call's name and the types of its arguments mean (manual 10.3).
use Rattle.std.specs.Prelude.{◌≡◌, ℕ, ◌<◌, List, [], ◌∷◌, Bool, true, length, Option, Some, None, Result, Ok, Err}
use Rattle.std.specs.List.{list_any}
use Rattle.xp_base.specs.declared.numbers.TypeNo.{TypeNo}
use Rattle.xp_base.specs.declared.numbers.RowNo.{RowNo}
use Rattle.xp_catalog.specs.Contents.{Contents}
use Rattle.xp_overload.specs.Categories.{or_all}
use Rattle.xp_candidates.specs.Chosen.{AreLeft, chosen, is_of, made_of, remaining}
use Rattle.xp_candidates.specs.declared.candidate.Candidate.{Candidate}
use Rattle.xp_candidates.specs.declared.pick.Pick.{Pick}
use Rattle.xp_candidates.specs.declared.pick.Pick.TheVariants.{Ambiguous}
use Rattle.xp_func.specs.Candidates.{candidates}
use Rattle.xp_func.specs.Exact.{exact}
use Rattle.xp_func.specs.Request.{cast_request}
use Rattle.xp_func.specs.declared.pick.PickedFunc.{PickedFunc}
use Rattle.xp_func.specs.declared.pick.PickedFunc.TheVariants.{Call, CastRequest}

-- step 4: the choice among the candidates
abbrev pub chosen_call : Contents → Bool → List TypeNo → List Candidate → Result PickedFunc Pick
chosen_call c variadic inputs candidates = made_of (λ picked. Call picked.row picked.expanded) (chosen c variadic inputs candidates)

-- step 3, and where nothing is asked for, step 4
abbrev pub request_or : Option TypeNo → Result PickedFunc Pick → Result PickedFunc Pick
request_or (Some type) choice = Ok (CastRequest type)
request_or None choice = choice

-- step 2: one exact match is taken, and of two none; where there is none, the steps behind it
abbrev pub exact_or : List Candidate → Result PickedFunc Pick → Result PickedFunc Pick
exact_or [] choice = choice
exact_or (candidate ∷ []) choice = Ok (Call candidate.row candidate.expanded)
exact_or (first ∷ second ∷ others) choice = Err (Ambiguous first.row second.row)

-- the steps in their order, over the candidates
abbrev pub picked_among : Contents → List ℕ → List TypeNo → Bool → List Candidate → Result PickedFunc Pick
picked_among c name inputs variadic candidates =
    exact_or (exact inputs candidates) (request_or (cast_request c name inputs variadic) (chosen_call c variadic inputs candidates))

abbrev pub picked_function : Contents → List ℕ → List TypeNo → Bool → Result PickedFunc Pick
picked_function c name inputs variadic = picked_among c name inputs variadic (candidates c name (length inputs) variadic)

-- the numbers are those of a function or a type
abbrev pub IsKnownPick : Contents → PickedFunc → Type 0
IsKnownPick c (Call row expanded) = row.0 < length c.funcs
IsKnownPick c (CastRequest type) = type.0 < length c.types

-- a call is one of the candidates of that name for that many arguments
abbrev pub IsListed : Contents → List ℕ → ℕ → Bool → PickedFunc → Type 0
IsListed c name count variadic (Call row expanded) = list_any (is_of (record { row = row; expanded = expanded })) (candidates c name count variadic) ≡ true
IsListed c name count variadic (CastRequest type) = Unit {0}

-- two that are left of the candidates of that name, in the order of their records: of those that match exactly, and where none does, of those that the steps leave
abbrev pub AreLeftOf : Contents → List ℕ → List TypeNo → Bool → RowNo → RowNo → Type 0
AreLeftOf c name inputs variadic =
    let all = candidates c name (length inputs) variadic in
    AreLeft all (or_all (exact inputs all) (remaining c variadic inputs all))
