-- The texts of bytea (manual 8.4), and bytes as hexadecimal digits (9.5).
use Rattle.std.specs.Prelude.{ℕ, zero, suc, ◌+◌, ◌-◌, ◌*◌, ◌==◌, nat_le, nat_lt, Bool, ◌&&◌, if◌then◌else◌, List, [], ◌∷◌, ◌++◌, codes, drop, slice_index, Option, Some, None, Result, Ok, Err}
use Rattle.std.specs.Option.{option_map}
use Rattle.std.specs.Str.{bytes_eq}
use Rattle.hex.specs.Hex.{decode_of, encode_lower}
use Rattle.hex.specs.declared.error.FromHexError.{FromHexError}
use Rattle.xp_base.specs.declared.codes.EvalError.{EvalError}
use Rattle.xp_base.specs.declared.codes.EvalError.TheVariants as error
use Rattle.xp_characters.specs.declared.fault.TextFault.{TextFault}
use Rattle.xp_characters.specs.declared.fault.TextFault.TheVariants as fault
use Rattle.xp_characters.specs.Faults.{bad_parameter, limited}

-- what is decoded, or this error in place of another one
abbrev pub decoded : EvalError → Result (List ℕ) FromHexError → Result (List ℕ) TextFault
decoded e (Ok bytes) = Ok bytes
decoded e (Err f) = Err (fault.Raised e)

-- the bytes that an even number of hexadecimal digits write, two each
abbrev pub from_digits : List ℕ → EvalError → Result (List ℕ) TextFault
from_digits digits e = decoded e (decode_of digits)

abbrev pub encode : (bytes format : List ℕ) → Result (List ℕ) TextFault
encode bytes format = if bytes_eq format (codes "hex") then limited (encode_lower bytes) else Err bad_parameter

abbrev pub decode : (text format : List ℕ) → Result (List ℕ) TextFault
decode text format = if bytes_eq format (codes "hex") then from_digits text error.BadParameter else Err bad_parameter

-- `0` to `7`
abbrev pub octal_digit : ℕ → Option ℕ
octal_digit c = if nat_le 48 c && nat_le c 55 then Some (c - 48) else None

abbrev pub octal_byte : Option ℕ → Option ℕ → Option ℕ → Option ℕ
octal_byte (Some a) (Some b) (Some c) = if nat_le a 3 then Some (a * 64 + b * 8 + c) else None
octal_byte a b c = None

-- the byte that three octal digits from 000 to 377 write
abbrev pub of_octal : ℕ → ℕ → ℕ → Option ℕ
of_octal a b c = octal_byte (octal_digit a) (octal_digit b) (octal_digit c)

abbrev pub four : Option ℕ → Option (ℕ × ℕ)
four None = None
four (Some byte) = Some (byte, 4)

-- The first byte that a text writes, and how many characters it takes: a backslash, 92, stands
-- before itself or before three octal digits; any other character is itself. No digit stands
-- behind the end, where `slice_index` gives 0.
abbrev pub piece : List ℕ → Option (ℕ × ℕ)
piece text =
    if slice_index text 0 == 92
    then if slice_index text 1 == 92 then Some (92, 2) else four (of_octal (slice_index text 1) (slice_index text 2) (slice_index text 3))
    else Some (slice_index text 0, 1)

-- a first byte, and the bytes behind the characters that are left of it
abbrev pub with_piece : Option (ℕ × ℕ) → (ℕ → Option (List ℕ)) → Option (List ℕ)
with_piece None others = None
with_piece (Some first) others = option_map (λ bytes. first.0 ∷ bytes) (others (first.1 - 1))

-- the bytes of a text, of which so many characters are left of a byte before
abbrev pub escaped_from : ℕ → List ℕ → Option (List ℕ)
escaped_from left [] = Some []
escaped_from (suc left) (c ∷ cs) = escaped_from left cs
escaped_from zero (c ∷ cs) = with_piece (piece (c ∷ cs)) (λ left. escaped_from left cs)

abbrev pub or_bad_text : Option (List ℕ) → Result (List ℕ) TextFault
or_bad_text None = Err (fault.Raised error.BadText)
or_bad_text (Some bytes) = Ok bytes

abbrev pub escaped : List ℕ → Result (List ℕ) TextFault
escaped text = or_bad_text (escaped_from 0 text)

-- it begins with `\x`
abbrev pub begins_hex : List ℕ → Bool
begins_hex text = slice_index text 0 == 92 && slice_index text 1 == 120

-- what a text is as bytes
abbrev pub bytes_in : List ℕ → Result (List ℕ) TextFault
bytes_in text = if begins_hex text then from_digits (drop 2 text) error.BadText else escaped text

-- the text of bytes
abbrev pub text : List ℕ → List ℕ
text bytes = 92 ∷ 120 ∷ encode_lower bytes
