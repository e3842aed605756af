-- What the code asks of a candidate at each position before it looks at any of them (step 3.e).
use Rattle.std.specs.Prelude.{◌<◌, ℕ, ◌+◌, List, [], ◌∷◌, Bool, true, false, ◌&&◌, ◌||◌, not, cond, length, Option, Some, None, filter}
use Rattle.std.specs.List.{zip, list_any, list_all}
use Rattle.xp_overload.specs.Places.{slots_at}
use Rattle.xp_overload.specs.Matches.{is_known}
use Rattle.xp_overload.specs.Categories.{column, is_of, selected}
use Rattle.xp_overload.specs.declared.slots.InSlot.{InSlot}
use Rattle.xp_overload.specs.declared.demands.Wanted.{Wanted}
use Rattle.xp_overload.specs.declared.demands.Wanted.TheVariants.{Category, OtherCategory, PreferredOf}
use Rattle.xp_overload.specs.declared.demands.Demand.{Demand}
use Rattle.xp_overload.specs.declared.demands.Demand.TheVariants.{Anything, Slot, Nothing}

-- each candidate has a slot at this position
abbrev pub Reaches : List (List InSlot) → ℕ → Type 0
Reaches candidates position = (place : ℕ) → place < length candidates → position < length (slots_at candidates place)

abbrev pub is_wanted : Wanted → InSlot → Bool
is_wanted (Category category) slot = is_of category slot
is_wanted (OtherCategory category) slot = not (is_of category slot)
is_wanted (PreferredOf category) slot = slot.preferred && is_of category slot

abbrev pub first_of : List InSlot → Option InSlot
first_of [] = None
first_of (slot ∷ _) = Some slot

abbrev pub demand_for : Option ℕ → List InSlot → Demand
demand_for None slots = Nothing
demand_for (Some category) slots = Slot category (list_any (is_wanted (PreferredOf category)) slots)

abbrev pub demand_at : InSlot → List InSlot → Demand
demand_at input slots = cond (is_known input) Anything (demand_for (selected slots) slots)

-- the demands from a position on
abbrev pub demands_from : List (List InSlot) → List ℕ → ℕ → List InSlot → List Demand
demands_from candidates places position [] = []
demands_from candidates places position (input ∷ inputs) = demand_at input (column (slots_at candidates) position places) ∷ demands_from candidates places (position + 1) inputs

abbrev pub meets : Demand → InSlot → Bool
meets Anything slot = true
meets (Slot category preferred) slot = is_of category slot && (slot.preferred || not preferred)
meets Nothing slot = false

abbrev pub meets_all : List Demand → List InSlot → Bool
meets_all demands slots = list_all (λ pair. meets pair.0 pair.1) (zip demands slots)

abbrev pub passing : List (List InSlot) → List Demand → List ℕ → List ℕ
passing candidates demands places = filter (λ place. meets_all demands (slots_at candidates place)) places

abbrev pub is_filled : List ℕ → Bool
is_filled [] = false
is_filled (place ∷ places) = true
