-- Lists that are taken from their ends.
use Rattle.std.proofs.Common.{◌≡◌, ◌<◌, List, [], ◌∷◌, ◌++◌, length, refl, ap, sym, ◌∙◌, arith}
use Rattle.std.specs.Prelude.{reverse}
use Rattle.std.proofs.lemmas.List.{append_assoc, reverse-append, reverse-reverse}
use Rattle.xp_resolve.specs.Order.{swapped}

-- the last of a list, put behind a turned one, stands in front of what that holds
pub moved : {A : Type 0} (left turned : List A) (x : A) → (left ++ x ∷ []) ++ reverse turned ≡ left ++ reverse (turned ++ x ∷ [])
moved left turned x = append_assoc left (x ∷ []) (reverse turned) ∙ sym (ap (λ r. left ++ r) (reverse-append turned (x ∷ [])))

pub popped : {A : Type 0} (items : List A) (x : A) → reverse (items ++ x ∷ []) ≡ x ∷ reverse items
popped items x = reverse-append items (x ∷ [])

pub turned_twice : {A : Type 0} (items : List A) → reverse (reverse items) ≡ items
turned_twice items = reverse-reverse items

-- one is turned already
pub one_turned : {A : Type 0} (items : List A) → length items < 2 → reverse items ≡ items
one_turned [] few = refl
one_turned (x ∷ []) few = refl
one_turned (x ∷ y ∷ rest) few = absurd (omega arith)

pub two_turned : {A : Type 0} (items : List A) → length items ≡ 2 → reverse items ≡ swapped items
two_turned [] two = absurd (omega arith)
two_turned (x ∷ []) two = absurd (omega arith)
two_turned (x ∷ y ∷ []) two = refl
two_turned (x ∷ y ∷ z ∷ rest) two = absurd (omega arith)
