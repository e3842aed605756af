-- Characters taken off the ends of texts, or each put in the place of another (manual 9.4).
use Rattle.std.specs.Prelude.{ℕ, ◌==◌, Bool, true, false, if◌then◌else◌, List, [], ◌∷◌, ◌++◌, reverse}
use Rattle.std.specs.List.{flat_map, list_any}

abbrev pub is_in : List ℕ → ℕ → Bool
is_in set c = list_any (λ d. d == c) set

-- what is left from the first character on that isn't in the set
abbrev pub ltrim : List ℕ → List ℕ → List ℕ
ltrim set [] = []
ltrim set (c ∷ cs) = if is_in set c then ltrim set cs else c ∷ cs

-- the same at the other end
abbrev pub rtrim : List ℕ → List ℕ → List ℕ
rtrim set cs = reverse (ltrim set (reverse cs))

abbrev pub btrim : List ℕ → List ℕ → List ℕ
btrim set cs = rtrim set (ltrim set cs)

-- What a character becomes: the one at its first place in `old` has in `new`; none where `new` is
-- too short, itself where it isn't in `old`.
abbrev pub exchanged : (old new : List ℕ) → ℕ → List ℕ
exchanged [] new c = c ∷ []
exchanged (o ∷ old) [] c = if o == c then [] else exchanged old [] c
exchanged (o ∷ old) (n ∷ new) c = if o == c then n ∷ [] else exchanged old new c

abbrev pub translate : (cs old new : List ℕ) → List ℕ
translate cs old new = flat_map (exchanged old new) cs
