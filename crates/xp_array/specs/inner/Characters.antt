-- The characters of an element without quotes.
use Rattle.std.specs.Prelude.{ℕ, ◌==◌, if◌then◌else◌, List, [], ◌∷◌}
use Rattle.xp_array.specs.Marks.{backslash}

-- what a backslash makes plain
abbrev pub plain : List ℕ → List ℕ × List ℕ
plain [] = ([], [])
plain (c ∷ text) = (c ∷ [], text)

-- the byte that the first character stands for, and what stands behind it
abbrev pub character : List ℕ → List ℕ × List ℕ
character [] = ([], [])
character (c ∷ text) = if c == backslash then plain text else (c ∷ [], text)
