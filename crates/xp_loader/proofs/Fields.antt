-- The field at a place, by csv's word and by the list's.
use Rattle.std.proofs.Common.{◌≡◌, ℕ, zero, suc, List, [], ◌∷◌, refl, get_or}
use Rattle.std.specs.Option.{unwrap_or}
use Rattle.csv.specs.Records.{field_at}

pub unwrap_or-field_at : (fields : List (List ℕ)) (place : ℕ) → unwrap_or (field_at fields place) [] ≡ get_or fields place []
unfolding field_at
unwrap_or-field_at [] place = refl
unwrap_or-field_at (x ∷ xs) zero = refl
unwrap_or-field_at (x ∷ xs) (suc place) = unwrap_or-field_at xs place
