-- Texts made of parts: copies, words, single characters (manual 9.4).
use Rattle.std.specs.Prelude.{ℤ, pos, negsuc, ℕ, zero, suc, Bool, if◌then◌else◌, List, [], ◌∷◌, ◌++◌, codes, nat_lt, nat_le, ◌&&◌, ◌||◌, Option, Some, None, Result, Ok, Err}
use Rattle.std.specs.Str.{encode_utf8_all}
use Rattle.xp_characters.specs.declared.fault.TextFault.{TextFault}
use Rattle.xp_characters.specs.Faults.{bad_parameter}

-- so many times the same, one behind the other
abbrev pub repeated : ℕ → List ℕ → List ℕ
repeated zero xs = []
repeated (suc n) xs = xs ++ repeated n xs

-- `true` or `false`
abbrev pub truth : Bool → List ℕ
truth b = if b then codes "true" else codes "false"

-- the code point of the first character, 0 where there is none
abbrev pub first_code : List ℕ → ℕ
first_code [] = 0
first_code (c ∷ cs) = c

-- a count, below 0 none
abbrev pub times : ℤ → ℕ
times (pos n) = n
times (negsuc n) = 0

-- a code point that characters of a text have: any but 0 and those of surrogates
abbrev pub is_code_point : ℕ → Bool
is_code_point c = nat_lt 0 c && (nat_lt c 0xD800 || (nat_le 0xE000 c && nat_le c 0x10FFFF))

-- the character with that code point
abbrev pub character : ℤ → Option ℕ
character (pos n) = if is_code_point n then Some n else None
character (negsuc n) = None

-- the text of that character alone
abbrev pub alone : Option ℕ → Result (List ℕ) TextFault
alone None = Err bad_parameter
alone (Some c) = Ok (encode_utf8_all (c ∷ []))

abbrev pub chr : ℤ → Result (List ℕ) TextFault
chr n = alone (character n)
