-- The parts of a pattern before its first `%`, and the search for what stands behind it.
use Rattle.std.specs.Prelude.{◌≡◌, ℕ, ◌+◌, ◌<◌, ◌≤◌, suc, ◌==◌, Bool, true, false, ◌&&◌, List, [], ◌∷◌, drop, length, Option, Some, None}
use Rattle.xp_like.specs.Patterns.{matches, parts, some_end}
use Rattle.xp_like.specs.declared.matching.Next.{Next}
use Rattle.xp_like.specs.declared.matching.Next.TheVariants.{Done, Search}
use Rattle.xp_like.specs.declared.matching.Run.{Run}
use Rattle.xp_like.specs.declared.matching.Run.TheVariants.{Any, Ends, Fails}
use Rattle.xp_like.specs.declared.parts.Part.{Part}
use Rattle.xp_like.specs.declared.parts.Part.TheVariants.{AnyText, AnyOne, Plain}

abbrev pub is_any_text : Part → Bool
is_any_text AnyText = true
is_any_text AnyOne = false
is_any_text (Plain d) = false

-- the part stands for this one character
abbrev pub takes : Part → ℕ → Bool
takes AnyText c = false
takes AnyOne c = true
takes (Plain d) c = c == d

-- the parts before the first `%` stand for the first characters
abbrev pub fits : List Part → List ℕ → Bool
fits [] cs = true
fits (AnyText ∷ ps) cs = true
fits (AnyOne ∷ ps) [] = false
fits (AnyOne ∷ ps) (c ∷ cs) = fits ps cs
fits (Plain d ∷ ps) [] = false
fits (Plain d ∷ ps) (c ∷ cs) = c == d && fits ps cs

-- how many they are
abbrev pub width : List Part → ℕ
width [] = 0
width (AnyText ∷ ps) = 0
width (AnyOne ∷ ps) = suc (width ps)
width (Plain d ∷ ps) = suc (width ps)

-- what stands behind the first `%`
abbrev pub behind : List Part → Option (List Part)
behind [] = None
behind (AnyText ∷ ps) = Some ps
behind (AnyOne ∷ ps) = behind ps
behind (Plain d ∷ ps) = behind ps

abbrev pub is_nil : List ℕ → Bool
is_nil [] = true
is_nil (c ∷ cs) = false

-- what stands behind the parts before the first `%` matches: any end, where there is a `%`
abbrev pub rest_matches : Option (List Part) → List ℕ → Bool
rest_matches None cs = is_nil cs
rest_matches (Some qs) cs = some_end (matches qs) cs

module _ {U : Type 0} (units : U → List ℕ) where
  -- what the parts before the first `%` find at the start of the text
  abbrev pub Finds : List Part → List ℕ → Run U → Type 0
  Finds ps cs Fails = fits ps cs ≡ false
  Finds ps cs (Ends rest) = (fits ps cs ≡ true) × (behind ps ≡ None) × (units rest ≡ drop (width ps) cs)
  Finds ps cs (Any pattern rest) = (fits ps cs ≡ true) × (behind ps ≡ Some (parts (units pattern))) × (units rest ≡ drop (width ps) cs)

  abbrev pub NoLonger : List ℕ → List ℕ → Run U → Type 0
  NoLonger qs cs Fails = Unit {0}
  NoLonger qs cs (Ends rest) = Unit {0}
  NoLonger qs cs (Any pattern rest) = (length (units pattern) < length qs) × (length (units rest) ≤ length cs)

  -- the search is done, or what is left to search answers the same
  abbrev pub Leads : List Part → List ℕ → Next U → Type 0
  Leads ps cs (Done found) = some_end (matches ps) cs ≡ found
  Leads ps cs (Search pattern rest) = some_end (matches ps) cs ≡ some_end (matches (parts (units pattern))) (units rest)

  abbrev pub IsNearer : List ℕ → List ℕ → Next U → Type 0
  IsNearer qs cs (Done found) = Unit {0}
  IsNearer qs cs (Search pattern rest) = length (units pattern) + length (units rest) < length qs + length cs
