-- The bytes that mean something in the text of an array (manual 8.15.2, 8.15.6). Each is a whole
-- character in UTF-8, and no other character has such a byte.
use Rattle.std.specs.Prelude.{ℕ, Bool, ◌==◌, ◌||◌, ◌&&◌, nat_le, if◌then◌else◌, List, [], ◌∷◌, map, codes}
use Rattle.std.specs.Char.{to_ascii_lowercase}
use Rattle.std.specs.Str.{bytes_eq}

abbrev pub quote : ℕ
quote = 34

abbrev pub comma : ℕ
comma = 44

abbrev pub backslash : ℕ
backslash = 92

abbrev pub opening : ℕ
opening = 123

abbrev pub closing : ℕ
closing = 125

-- a comma, a brace or a quote
abbrev pub is_mark : ℕ → Bool
is_mark c = c == comma || c == opening || c == closing || c == quote

-- space, tab, newline, vertical tab, form feed and carriage return
abbrev pub is_space : ℕ → Bool
is_space c = c == 32 || (nat_le 9 c && nat_le c 13)

-- the text without the white space in front
abbrev pub past_space : List ℕ → List ℕ
past_space [] = []
past_space (c ∷ text) = if is_space c then past_space text else c ∷ text

-- NULL in any case
abbrev pub is_null_word : List ℕ → Bool
is_null_word text = bytes_eq (map to_ascii_lowercase text) (codes "null")
