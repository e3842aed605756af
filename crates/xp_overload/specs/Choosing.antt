-- The choice of one candidate: the steps in their order (manual 10.2 step 3.c to 3.f, 10.3 step 4.c to 4.f).
use Rattle.std.specs.Prelude.{ℕ, List, [], ◌∷◌, Bool, filter}
use Rattle.xp_overload.specs.Matches.{most_exact, most_preferred}
use Rattle.xp_overload.specs.Categories.{of_category}
use Rattle.xp_overload.specs.declared.slots.InSlot.{InSlot}
use Rattle.xp_overload.specs.declared.choice.Choice.{Choice}
use Rattle.xp_overload.specs.declared.choice.Choice.TheVariants.{One, Several}

abbrev pub or_all_unless_one : {A : Type 0} → List A → List A → List A
or_all_unless_one (candidate ∷ []) candidates = candidate ∷ []
or_all_unless_one _ candidates = candidates

-- 3.f: "if exactly one candidate passes this test, use it"; the test asks whether a candidate accepts the unknown inputs as having the type of the known ones
abbrev pub as_known_type : {A : Type 0} → (A → Bool) → List A → List A
as_known_type passes candidates = or_all_unless_one (filter passes candidates) candidates

-- what the steps leave of the candidates; each leaves a list of one as it is
abbrev pub left : {A : Type 0} → (A → List InSlot) → (A → Bool) → List InSlot → List A → List A
left declared passes inputs candidates =
    as_known_type passes (of_category declared inputs (most_preferred declared inputs (most_exact declared inputs candidates)))

abbrev pub choice_of : List ℕ → Choice
choice_of [] = Several
choice_of (place ∷ []) = One place
choice_of (first ∷ second ∷ places) = Several
