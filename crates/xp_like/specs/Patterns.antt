-- What the patterns of LIKE and ILIKE match (manual 9.7.1), over characters or bytes.
use Rattle.std.specs.Prelude.{ℕ, ◌==◌, Bool, true, false, not, ◌&&◌, ◌||◌, if◌then◌else◌, List, [], ◌∷◌, map, Result, Ok, Err}
use Rattle.std.specs.Char.{to_ascii_lowercase}
use Rattle.xp_base.specs.declared.codes.EvalError.{EvalError}
use Rattle.xp_base.specs.declared.codes.EvalError.TheVariants.{BadEscape}
use Rattle.xp_like.specs.declared.parts.Part.{Part}
use Rattle.xp_like.specs.declared.parts.Part.TheVariants.{AnyText, AnyOne, Plain}

-- 37 is `%` and 95 is `_`
abbrev pub part : ℕ → Part
part c = if c == 37 then AnyText else if c == 95 then AnyOne else Plain c

-- A pattern's parts, from left to right: a backslash, 92, makes what stands behind it plain. A
-- single backslash at the end is none.
abbrev pub parts : List ℕ → List Part
parts [] = []
parts (c ∷ []) = if c == 92 then [] else part c ∷ []
parts (c ∷ d ∷ rest) = if c == 92 then Plain d ∷ parts rest else part c ∷ parts (d ∷ rest)

-- a single backslash stands at the end
abbrev pub ends_in_escape : List ℕ → Bool
ends_in_escape [] = false
ends_in_escape (c ∷ []) = c == 92
ends_in_escape (c ∷ d ∷ rest) = if c == 92 then ends_in_escape rest else ends_in_escape (d ∷ rest)

-- the whole list or what is left of it behind its first elements passes the test
abbrev pub some_end : (List ℕ → Bool) → List ℕ → Bool
some_end passes [] = passes []
some_end passes (c ∷ cs) = passes (c ∷ cs) || some_end passes cs

-- `%` stands for any text, `_` for any one character, and a plain character for itself
abbrev pub matches : List Part → List ℕ → Bool
matches [] [] = true
matches [] (c ∷ cs) = false
matches (AnyText ∷ ps) cs = some_end (matches ps) cs
matches (AnyOne ∷ ps) [] = false
matches (AnyOne ∷ ps) (c ∷ cs) = matches ps cs
matches (Plain d ∷ ps) [] = false
matches (Plain d ∷ ps) (c ∷ cs) = c == d && matches ps cs

-- whether the text is like the pattern, which may not end in a single backslash
abbrev pub like : (text pattern : List ℕ) → Result Bool EvalError
like text pattern = if ends_in_escape pattern then Err BadEscape else Ok (matches (parts pattern) text)

-- the same in any case of ASCII letters
abbrev pub ilike : (text pattern : List ℕ) → Result Bool EvalError
ilike text pattern = like (map to_ascii_lowercase text) (map to_ascii_lowercase pattern)

abbrev pub negated : Result Bool EvalError → Result Bool EvalError
negated (Ok holds) = Ok (not holds)
negated (Err error) = Err error
