-- What names, numbers and operators stand for, and where tokens and faults stand (manual 4.1).
use Rattle.std.specs.Prelude.{ℕ, ◌-◌, ◌^◌, Bool, true, false, not, ◌&&◌, ◌||◌, if◌then◌else◌, ◌==◌, nat_le, nat_lt, List, length, take, slice_index, codes, Option, Some, None, Result}
use Rattle.std.specs.Char.{to_ascii_lowercase}
use Rattle.std.specs.List.{prefix_len}
use Rattle.std.specs.Str.{bytes_eq}
use Rattle.std.specs.Str.Lossy.{utf8_valid_len}
use Rattle.xp_lexer.specs.declared.numbers.Exponent.{Exponent}
use Rattle.xp_lexer.specs.declared.numbers.Exponent.TheVariants as shift
use Rattle.xp_lexer.specs.declared.lexed.LexFault.{LexFault}
use Rattle.xp_lexer.specs.declared.lexed.LexFault.TheVariants as fault
use Rattle.xp_lexer.specs.declared.scan_error.ScanError.{ScanError}
use Rattle.xp_lexer.specs.declared.scan_error.ScanError.TheVariants as error
use Rattle.xp_token.specs.declared.words.Word.{Word}
use Rattle.xp_base.specs.Operators.{is_operator_byte}
use Rattle.xp_lexer.specs.Bytes.{Text, first, is_decimal, is_name_byte, opens_comment}
use Rattle.xp_token.specs.Lexemes.{Lexeme, Placed, NameOf, Reserved, NumberOf, TooWide}

-- the reserved word, or else the name
abbrev pub named : Option Word → Text → Lexeme
named None folded = NameOf folded
named (Some w) folded = Reserved w

abbrev pub is_absent : Exponent → Bool
is_absent shift.Absent = true
is_absent (shift.Up by) = false
is_absent (shift.Down by) = false

unfoldable pub number_of : ℕ → ℕ → Bool → Lexeme
number_of coefficient scale whole =
    if nat_lt coefficient (10 ^ 38) && nat_le scale 38 then NumberOf false coefficient scale whole else TooWide

abbrev pub base_of : ℕ → ℕ
base_of b =
    if b == 120 || b == 88 then 16 else (if b == 111 || b == 79 then 8 else (if b == 98 || b == 66 then 2 else 10))

abbrev pub goes_on : ℕ → ℕ → Bool
goes_on b next = is_operator_byte b && not (opens_comment b next)

unfoldable pub spelled : Text → Text
spelled operator = if bytes_eq operator (codes "!=") then codes "<>" else operator

abbrev pub nonzero_len : Text → ℕ
nonzero_len raw = prefix_len (λ b. not (b == 0)) raw

-- the length of the longest front that is UTF-8 without a zero byte
abbrev pub clean_len : Text → ℕ
clean_len raw = utf8_valid_len (take (nonzero_len raw) raw)

-- a letter before a quote, or u& before one, for which no constant stands
unfoldable pub is_prefix : Text → Bool
is_prefix z =
    let b = to_ascii_lowercase (first z) in
    let next = slice_index z 1 in
    ((b == 98 || b == 101 || b == 110 || b == 120) && next == 39)
    || ((b == 117 && next == 38) && (slice_index z 2 == 39 || slice_index z 2 == 34))

abbrev pub begins_number : Text → Bool
begins_number z = is_decimal (first z) || (first z == 46 && is_decimal (slice_index z 1))

abbrev pub is_number : Lexeme → Bool
is_number (NumberOf n c s w) = true
is_number TooWide = true
is_number _ = false

-- a letter, a digit or an underscore stands directly behind a number
abbrev pub is_trailing_junk : Lexeme → Text → Bool
is_trailing_junk k rest = is_number k && is_name_byte (first rest)

-- the token between a text and its rest, where the whole has `total` bytes
abbrev pub token_at : ℕ → Text → Text → Lexeme → Placed
token_at total z rest k = record { start = total - length z; end = total - length rest; lexeme = k }

-- the place where so many bytes are left
abbrev pub fault_of : ℕ → ScanError → LexFault
fault_of total (error.BadByte left) = fault.BadByte (total - left)
fault_of total (error.Unclosed left) = fault.Unclosed (total - left)
fault_of total (error.TooManyTokens left) = fault.TooManyTokens (total - left)
fault_of total error.Memory = fault.Memory

-- the tokens of a statement and the place behind it, or the fault
abbrev pub Answer : Type 0
Answer = Result (List Placed × ℕ) LexFault
