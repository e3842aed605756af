-- The order of a call's arguments, where it isn't that in which they are written.
use Rattle.std.specs.Prelude.{List, [], ◌∷◌}
use Rattle.xp_resolve.specs.declared.order.Order.{Order}
use Rattle.xp_resolve.specs.declared.order.Order.TheVariants.{AsWritten, Swapped}

-- two, the second first
abbrev pub swapped : {A : Type 0} → List A → List A
swapped (a ∷ b ∷ []) = b ∷ a ∷ []
swapped list = list

abbrev pub in_order : {A : Type 0} → Order → List A → List A
in_order AsWritten list = list
in_order Swapped list = swapped list
