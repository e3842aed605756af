-- Candidates by their places: which of them a mask keeps, and what each declares.
use Rattle.std.specs.Prelude.{◌≡◌, ◌<◌, ℕ, ◌+◌, List, [], ◌∷◌, Bool, false, cond, length, slice_index_or}
use Rattle.xp_overload.specs.declared.slots.InSlot.{InSlot}

-- the places that a mask marks, where its first mark is that of the place i
abbrev pub kept_from : ℕ → List Bool → List ℕ
kept_from i [] = []
kept_from i (mark ∷ marks) = cond mark (i ∷ kept_from (i + 1) marks) (kept_from (i + 1) marks)

-- the places that a mask marks
abbrev pub kept : List Bool → List ℕ
kept marks = kept_from 0 marks

-- whether it marks a place
abbrev pub is_marked : List Bool → ℕ → Bool
is_marked marks place = slice_index_or marks place false

-- the slots of the candidate at a place
abbrev pub slots_at : List (List InSlot) → ℕ → List InSlot
slots_at candidates place = slice_index_or candidates place []

-- each candidate has this many slots
abbrev pub HaveSlots : List (List InSlot) → ℕ → Type 0
HaveSlots candidates count = (place : ℕ) → place < length candidates → length (slots_at candidates place) ≡ count
