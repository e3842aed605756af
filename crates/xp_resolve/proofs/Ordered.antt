-- Lists in the order of a call.
use Rattle.std.proofs.Common.{◌≡◌, List, [], ◌∷◌, length, refl}
use Rattle.std.specs.List.{All}
use Rattle.std.proofs.lemmas.List.Elements.{All-cons, All-nil}
use Rattle.xp_resolve.specs.declared.order.Order.{Order}
use Rattle.xp_resolve.specs.declared.order.Order.TheVariants.{AsWritten, Swapped}
use Rattle.xp_resolve.specs.Order.{in_order, swapped}
use Rattle.xp_resolve.proofs.Converting.{first_is, rest_are}

swapped_many : {A : Type 0} (list : List A) → length (swapped list) ≡ length list
swapped_many [] = refl
swapped_many (a ∷ []) = refl
swapped_many (a ∷ b ∷ []) = refl
swapped_many (a ∷ b ∷ c ∷ list) = refl

pub as_many : {A : Type 0} (order : Order) (list : List A) → length (in_order order list) ≡ length list
as_many AsWritten list = refl
as_many Swapped list = swapped_many list

swapped_all : {A : Type 0} (P : A → Type 0) (list : List A) → All P list → All P (swapped list)
swapped_all P [] all = all
swapped_all P (a ∷ []) all = all
swapped_all P (a ∷ b ∷ []) all =
    let behind : All P (b ∷ []) = rest_are P (a ∷ b ∷ []) a (b ∷ []) all refl in
    All-cons P b (a ∷ []) (first_is P (b ∷ []) b [] behind refl) (All-cons P a [] (first_is P (a ∷ b ∷ []) a (b ∷ []) all refl) (All-nil P))
swapped_all P (a ∷ b ∷ c ∷ list) all = all

pub all_ordered : {A : Type 0} (P : A → Type 0) (order : Order) (list : List A) → All P list → All P (in_order order list)
all_ordered P AsWritten list all = all
all_ordered P Swapped list all = swapped_all P list all
