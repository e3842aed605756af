-- The operator that a name and the types of its operands mean (manual 10.2).
use Rattle.std.specs.Prelude.{◌≡◌, ℕ, List, true, false, length, Option, Some, None, Result, Ok}
use Rattle.std.specs.List.{list_any}
use Rattle.xp_base.specs.declared.numbers.TypeNo.{TypeNo}
use Rattle.xp_base.specs.declared.numbers.RowNo.{RowNo}
use Rattle.xp_catalog.specs.Contents.{Contents}
use Rattle.xp_candidates.specs.Chosen.{AreLeft, chosen, is_at, made_of, remaining}
use Rattle.xp_candidates.specs.declared.pick.Pick.{Pick}
use Rattle.xp_oper.specs.Candidates.{candidates}
use Rattle.xp_oper.specs.Exact.{matched}

-- step 3: the choice among the operators of that name
abbrev pub chosen_operator : Contents → List ℕ → List TypeNo → Result RowNo Pick
chosen_operator c name inputs = made_of (λ picked. picked.row) (chosen c false inputs (candidates c name (length inputs)))

-- step 2, and where that finds none, step 3
abbrev pub found_or : Option RowNo → Result RowNo Pick → Result RowNo Pick
found_or (Some row) choice = Ok row
found_or None choice = choice

abbrev pub picked_operator : Contents → List ℕ → List TypeNo → Result RowNo Pick
picked_operator c name inputs = found_or (matched c name inputs) (chosen_operator c name inputs)

-- one of the operators of that name with that many operands
abbrev pub IsListed : Contents → List ℕ → ℕ → RowNo → Type 0
IsListed c name count row = list_any (is_at row) (candidates c name count) ≡ true

-- two of the operators that are left of those of that name with as many operands, in the order of their records
abbrev pub AreLeftOf : Contents → List ℕ → List TypeNo → RowNo → RowNo → Type 0
AreLeftOf c name inputs = AreLeft (candidates c name (length inputs)) (remaining c false inputs (candidates c name (length inputs)))
