-- Searches in arrays (manual 9.19).
use Rattle.std.specs.Prelude.{ℕ, ◌+◌, pos, Bool, ◌&&◌, not, if◌then◌else◌, List, [], ◌∷◌, option_map, Option, Some, None}
use Rattle.std.specs.List.{list_all, list_any}
use Rattle.xp_value.specs.Null.{is_null}
use Rattle.xp_value.specs.Order.{is_same}
use Rattle.xp_value.specs.declared.value.Value.{Value}
use Rattle.xp_value.specs.declared.value.Value.TheVariants as value

-- the place of the first element that is the value, which null may be; places count from 1
abbrev pub position : List Value → Value → Option ℕ
position [] v = None
position (element ∷ elements) v = if is_same element v then Some 1 else option_map (λ place. place + 1) (position elements v)

-- the places of all elements that are the value, the first of which stands at `place`
abbrev pub places_from : (place : ℕ) → List Value → Value → List Value
places_from place [] v = []
places_from place (element ∷ elements) v = if is_same element v then value.Int (pos place) ∷ places_from (place + 1) elements v else places_from (place + 1) elements v

abbrev pub positions : List Value → Value → List Value
positions elements v = places_from 1 elements v

-- a null is in nothing
abbrev pub is_in : List Value → Value → Bool
is_in elements v = not (is_null v) && list_any (λ element. is_same element v) elements

-- every element of the second is in the first
abbrev pub contains : List Value → List Value → Bool
contains a b = list_all (is_in a) b

-- some element of the second is in the first
abbrev pub overlaps : List Value → List Value → Bool
overlaps a b = list_any (is_in a) b
