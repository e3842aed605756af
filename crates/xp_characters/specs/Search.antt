-- Lists within lists (manual 9.4, 9.5): of characters and of bytes.
use Rattle.std.specs.Prelude.{ℕ, ◌+◌, ◌==◌, Bool, true, false, if◌then◌else◌, List, [], ◌∷◌, Option, Some, None}
use Rattle.std.specs.Option.{option_map, unwrap_or}

-- the first list begins with the second
abbrev pub begins : List ℕ → List ℕ → Bool
begins xs [] = true
begins [] (y ∷ ys) = false
begins (x ∷ xs) (y ∷ ys) = if x == y then begins xs ys else false

-- behind how many elements the second list first stands in the first one
abbrev pub first_at : List ℕ → List ℕ → Option ℕ
first_at [] ys = if begins [] ys then Some 0 else None
first_at (x ∷ xs) ys = if begins (x ∷ xs) ys then Some 0 else option_map (λ k. k + 1) (first_at xs ys)

-- its place, which counts from 1; 0 where there is none
abbrev pub strpos : List ℕ → List ℕ → ℕ
strpos xs ys = unwrap_or (option_map (λ k. k + 1) (first_at xs ys)) 0
