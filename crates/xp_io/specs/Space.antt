-- White space around the text of a value (manual 8.1, 8.6).
use Rattle.std.specs.Prelude.{ℕ, List, [], ◌∷◌, cond}
use Rattle.xp_lexer.specs.Bytes.{is_space}

-- without the white space in front
abbrev pub trimmed_front : List ℕ → List ℕ
trimmed_front [] = []
trimmed_front (b ∷ text) = cond (is_space b) (trimmed_front text) (b ∷ text)

-- a byte and what is left of the rest: white space with nothing behind it goes
abbrev pub before : ℕ → List ℕ → List ℕ
before b [] = cond (is_space b) [] (b ∷ [])
before b (d ∷ rest) = b ∷ d ∷ rest

-- without the white space at the end
abbrev pub trimmed_end : List ℕ → List ℕ
trimmed_end [] = []
trimmed_end (b ∷ text) = before b (trimmed_end text)

-- without white space at both ends
abbrev pub trimmed : List ℕ → List ℕ
trimmed text = trimmed_end (trimmed_front text)
