-- The classes of bytes from which tokens are made (manual 4.1).
use Rattle.std.specs.Prelude.{ℕ, Bool, ◌&&◌, ◌||◌, ◌==◌, nat_le, List, slice_index}
use Rattle.std.specs.Char.{is_digit, is_ascii_alphabetic, is_ascii_alphanumeric}

-- a text, as its bytes
abbrev pub Text : Type 0
Text = List ℕ

-- the first byte, or 0 where there is none
abbrev pub first : Text → ℕ
first z = slice_index z 0

-- space, tab, newline, vertical tab, form feed and carriage return
abbrev pub is_space : ℕ → Bool
is_space b = b == 32 || (nat_le 9 b && nat_le b 13)

abbrev pub is_decimal : ℕ → Bool
is_decimal b = is_digit b 10

-- a letter or an underscore
abbrev pub begins_name : ℕ → Bool
begins_name b = is_ascii_alphabetic b || b == 95

-- a letter, a digit or an underscore
abbrev pub is_name_byte : ℕ → Bool
is_name_byte b = is_ascii_alphanumeric b || b == 95

-- -- and /*
abbrev pub opens_comment : ℕ → ℕ → Bool
opens_comment b next = (b == 45 && next == 45) || (b == 47 && next == 42)
