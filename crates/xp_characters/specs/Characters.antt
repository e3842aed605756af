-- Texts, which are kept as UTF-8, by their characters (manual 8.3, 24.3).
use Rattle.std.specs.Prelude.{ℕ, List}
use Rattle.std.specs.Str.{chars, encode_utf8_all}

-- the text that a function of characters makes of a text
abbrev pub over : (List ℕ → List ℕ) → List ℕ → List ℕ
over f text = encode_utf8_all (f (chars text))
