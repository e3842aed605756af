-- The text of an array, from the texts of its elements (manual 8.15.6).
use Rattle.std.specs.Prelude.{ℕ, Bool, ◌==◌, length, ◌||◌, if◌then◌else◌, List, [], ◌∷◌, ◌++◌, flat_map, codes, Option, Some, None}
use Rattle.std.specs.List.{join_by, list_any}
use Rattle.xp_array.specs.Marks.{backslash, closing, comma, is_mark, is_null_word, is_space, opening, quote}

-- a comma, brace, quote, backslash or white space
abbrev pub is_special : ℕ → Bool
is_special c = is_mark c || c == backslash || is_space c

-- an element is quoted where it is empty, has such a byte or spells NULL in any case
abbrev pub needs_quotes : List ℕ → Bool
needs_quotes text = length text == 0 || list_any is_special text || is_null_word text

-- with a backslash before each quote and backslash
abbrev pub escaped : List ℕ → List ℕ
escaped text = flat_map (λ c. if c == quote || c == backslash then backslash ∷ c ∷ [] else c ∷ []) text

abbrev pub element_text : Option (List ℕ) → List ℕ
element_text None = codes "NULL"
element_text (Some text) = if needs_quotes text then quote ∷ (escaped text ++ quote ∷ []) else text

-- the elements between braces, with a comma between each two
abbrev pub array_text : List (Option (List ℕ)) → List ℕ
array_text texts = opening ∷ (join_by element_text (comma ∷ []) texts ++ closing ∷ [])
