-- The category selected at each unknown position, and the candidates that take it (manual 10.2 step 3.e, 10.3 step 4.e).
use Rattle.std.specs.Prelude.{ℕ, List, [], ◌∷◌, Bool, false, ◌==◌, ◌&&◌, ◌||◌, not, cond, Option, Some, None, filter, map, slice_index_or}
use Rattle.std.specs.Option.{option_map_or}
use Rattle.std.specs.List.{enumerate_from, zip, list_any, list_all}
use Rattle.xp_overload.specs.Matches.{is_known}
use Rattle.xp_overload.specs.declared.slots.InSlot.{InSlot}

-- stands where a candidate declares nothing, which it does at no position of the inputs
abbrev pub no_slot : InSlot
no_slot = record { ty = record { 0 = 0 }; category = 0; preferred = false }

-- what the candidates declare at a position
abbrev pub column : {A : Type 0} → (A → List InSlot) → ℕ → List A → List InSlot
column declared position candidates = map (λ candidate. slice_index_or (declared candidate) position no_slot) candidates

abbrev pub is_of : ℕ → InSlot → Bool
is_of category slot = slot.category == category

-- the category that all have
abbrev pub shared_category : List InSlot → Option ℕ
shared_category [] = None
shared_category (slot ∷ slots) = cond (list_all (is_of slot.category) slots) (Some slot.category) None

-- "at each position, select the string category (S) if any candidate accepts that category; otherwise, if all the remaining candidates accept the same type category, select that category"
abbrev pub selected : List InSlot → Option ℕ
selected slots = cond (list_any (is_of 83) slots) (Some 83) (shared_category slots)

-- "discard candidates that do not accept the selected type category; furthermore, if any candidate accepts a preferred type in that category, discard candidates that accept non-preferred types"
abbrev pub takes_category : List InSlot → ℕ → InSlot → Bool
takes_category slots category slot = is_of category slot && (slot.preferred || not (list_any (λ other. other.preferred && is_of category other) slots))

-- where no category is selected the choice can't be deduced, and nothing is taken
abbrev pub is_taken : List InSlot → InSlot → Bool
is_taken slots slot = option_map_or (λ category. takes_category slots category slot) (selected slots) false

-- the candidate takes what is selected at every unknown position
abbrev pub survives : {A : Type 0} → (A → List InSlot) → List InSlot → List A → A → Bool
survives declared inputs candidates candidate =
    list_all (λ pair. is_known pair.0.1 || is_taken (column declared pair.0.0 candidates) pair.1) (zip (enumerate_from 0 inputs) (declared candidate))

abbrev pub or_all : {A : Type 0} → List A → List A → List A
or_all [] candidates = candidates
or_all (first ∷ others) candidates = first ∷ others

-- 3.e: those that survive; "keep all candidates if none survive these tests"
abbrev pub of_category : {A : Type 0} → (A → List InSlot) → List InSlot → List A → List A
of_category declared inputs candidates = or_all (filter (survives declared inputs candidates) candidates) candidates
