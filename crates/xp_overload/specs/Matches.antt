-- The candidates with the most matches (manual 10.2 step 3.c and 3.d, 10.3 step 4.c and 4.d). A step goes from a list of candidates to those of them that it keeps; `declared` gives what a candidate declares for each input.
use Rattle.std.specs.Prelude.{ℕ, List, [], ◌∷◌, Bool, ◌==◌, ◌&&◌, not, max, filter, count_by}
use Rattle.std.specs.List.{zip}
use Rattle.xp_overload.specs.declared.slots.InSlot.{InSlot}
use Rattle.xp_overload.specs.declared.matches.Match.{Match}
use Rattle.xp_overload.specs.declared.matches.Match.TheVariants.{Exact, Preferred}

-- an unknown input has category X
abbrev pub is_known : InSlot → Bool
is_known input = not (input.category == 88)

-- a slot matches a known input exactly where it has the input's type; it matches by preference
-- where the input needs a conversion, to a preferred type of the input's category
abbrev pub is_match : Match → InSlot → InSlot → Bool
is_match Exact input slot = is_known input && (slot.ty.0 == input.ty.0)
is_match Preferred input slot = is_known input && not (slot.ty.0 == input.ty.0) && slot.preferred && (slot.category == input.category)

-- at how many positions the slots match the inputs
abbrev pub matches : Match → List InSlot → List InSlot → ℕ
matches kind inputs slots = count_by (λ pair. is_match kind pair.0 pair.1) (zip inputs slots)

abbrev pub greatest : {A : Type 0} → (A → ℕ) → List A → ℕ
greatest count [] = 0
greatest count (candidate ∷ candidates) = max (count candidate) (greatest count candidates)

-- those with the greatest count; they are all where it is 0
abbrev pub with_most : {A : Type 0} → (A → ℕ) → List A → List A
with_most count candidates = filter (λ candidate. count candidate == greatest count candidates) candidates

-- 3.c: "keep those with the most exact matches on input types; keep all candidates if none have exact matches"
abbrev pub most_exact : {A : Type 0} → (A → List InSlot) → List InSlot → List A → List A
most_exact declared inputs candidates = with_most (λ candidate. matches Exact inputs (declared candidate)) candidates

-- 3.d: "keep those that accept preferred types (of the input data type's type category) at the most positions where type conversion will be required; keep all candidates if none accept preferred types"
abbrev pub most_preferred : {A : Type 0} → (A → List InSlot) → List InSlot → List A → List A
most_preferred declared inputs candidates = with_most (λ candidate. matches Preferred inputs (declared candidate)) candidates
