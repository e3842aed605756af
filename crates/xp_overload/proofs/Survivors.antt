-- The demands at the positions are met by those that survive.
use Rattle.std.proofs.Common.{◌≡◌, ℕ, ◌+◌, List, [], ◌∷◌, Bool, true, false, ◌&&◌, ◌||◌, not, cond, Option, Some, None, refl, subst, sym, eq-eqb}
use Rattle.std.specs.Option.{option_map_or}
use Rattle.std.specs.List.{enumerate_from, filter, list_all, list_any, zip}
use Rattle.xp_overload.specs.Places.{slots_at}
use Rattle.xp_overload.specs.Matches.{is_known}
use Rattle.xp_overload.specs.Categories.{column, is_of, is_taken, or_all, selected, shared_category, survives, takes_category}
use Rattle.xp_overload.specs.inner.Demands.{demand_at, demand_for, demands_from, first_of, is_filled, is_wanted, meets, meets_all, passing}
use Rattle.xp_overload.specs.declared.demands.Wanted.TheVariants.{OtherCategory}
use Rattle.xp_overload.specs.declared.slots.InSlot.{InSlot}

meets-selected : (category : Option ℕ) (slots : List InSlot) (slot : InSlot) → meets (demand_for category slots) slot ≡ option_map_or (λ letter. takes_category slots letter slot) category false
meets-selected None slots slot = refl
meets-selected (Some category) slots slot = refl

meets-cond : (known : Bool) (input : InSlot) (slots : List InSlot) (slot : InSlot) → is_known input ≡ known → meets (demand_at input slots) slot ≡ (known || is_taken slots slot)
meets-cond true input slots slot is = rw is refl
meets-cond false input slots slot is = rw is (meets-selected (selected slots) slots slot)

meets-from : (candidates : List (List InSlot)) (places : List ℕ) (position : ℕ) (inputs slots : List InSlot) → meets_all (demands_from candidates places position inputs) slots ≡ list_all (λ pair. is_known pair.0.1 || is_taken (column (slots_at candidates) pair.0.0 places) pair.1) (zip (enumerate_from position inputs) slots)
meets-from candidates places position [] slots = refl
meets-from candidates places position (input ∷ inputs) [] = refl
meets-from candidates places position (input ∷ inputs) (slot ∷ slots) =
    rw (meets-cond (is_known input) input (column (slots_at candidates) position places) slot refl, meets-from candidates places (position + 1) inputs slots) refl

filter-same : (p q : ℕ → Bool) → ((place : ℕ) → p place ≡ q place) → (places : List ℕ) → filter p places ≡ filter q places
filter-same p q same [] = refl
filter-same p q same (place ∷ places) = rw (same place, filter-same p q same places) refl

-- those that pass are those that survive
pub passing_survive : (candidates : List (List InSlot)) (inputs : List InSlot) (places : List ℕ) → passing candidates (demands_from candidates places 0 inputs) places ≡ filter (survives (slots_at candidates) inputs places) places
passing_survive candidates inputs places =
    filter-same (λ place. meets_all (demands_from candidates places 0 inputs) (slots_at candidates place)) (survives (slots_at candidates) inputs places) (λ place. meets-from candidates places 0 inputs (slots_at candidates place)) places

pub some_pass : (those all : List ℕ) → is_filled those ≡ true → or_all those all ≡ those
some_pass [] all is = cc
some_pass (place ∷ places) all is = refl

pub none_pass : (those all : List ℕ) → is_filled those ≡ false → or_all those all ≡ all
none_pass [] all is = refl
none_pass (place ∷ places) all is = cc

not-all : (here any all : Bool) → any ≡ not all → (not here || any) ≡ not (here && all)
not-all true any all is = is
not-all false any all is = refl

any-other : (category : ℕ) (slots : List InSlot) → list_any (is_wanted (OtherCategory category)) slots ≡ not (list_all (is_of category) slots)
any-other category [] = refl
any-other category (slot ∷ slots) = not-all (is_of category slot) (list_any (is_wanted (OtherCategory category)) slots) (list_all (is_of category) slots) (any-other category slots)

turned : (all : Bool) (category : ℕ) → cond (not all) None (Some category) ≡ cond all (Some category) None
turned true category = refl
turned false category = refl

-- no candidate has another category than the first where all have that one
shared-own : (slot : InSlot) (slots : List InSlot) → cond (list_any (is_wanted (OtherCategory slot.category)) (slot ∷ slots)) None (Some slot.category) ≡ shared_category (slot ∷ slots)
shared-own slot slots =
    let own : is_of slot.category slot ≡ true = eq-eqb slot.category slot.category refl in
    rw (own, any-other slot.category slots) (turned (list_all (is_of slot.category) slots) slot.category)

-- where some slot has another category than the first, none is shared
pub shared_by : (slots : List InSlot) (first : InSlot) (other : Bool) → first_of slots ≡ Some first → other ≡ list_any (is_wanted (OtherCategory first.category)) slots → cond other None (Some first.category) ≡ shared_category slots
shared_by [] first other is any = cc
shared_by (slot ∷ slots) first other is any =
    let same : slot ≡ first = cc in
    subst (λ it. cond it None (Some first.category) ≡ shared_category (slot ∷ slots)) (sym any) (subst (λ it. cond (list_any (is_wanted (OtherCategory it.category)) (slot ∷ slots)) None (Some it.category) ≡ shared_category (slot ∷ slots)) same (shared-own slot slots))

pub shared_none : (slots : List InSlot) → first_of slots ≡ None → shared_category slots ≡ None
shared_none [] is = refl
shared_none (slot ∷ slots) is = cc
