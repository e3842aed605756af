-- The texts of bytea: bytes are no more than the characters that write them, and what is written is ASCII without a zero byte.
use Rattle.std.proofs.Common.{◌≡◌, ℕ, zero, suc, ◌+◌, ◌-◌, ◌*◌, ◌/◌, ◌%◌, ◌<◌, ◌≤◌, List, [], ◌∷◌, Bool, true, false, ◌==◌, ◌&&◌, if◌then◌else◌, nat_lt, Option, Some, None, Result, Ok, Err, drop, length, refl, sym, ap, ◌∙◌, arith, slice_index}
use Rattle.std.specs.Option.{option_map}
use Rattle.std.specs.Str.{IsAscii, IsUtf8}
use Rattle.std.proofs.lemmas.Bool.{and_parts, ltb-true, ne_eqb}
use Rattle.std.proofs.lemmas.List.{length-drop}
use Rattle.std.proofs.lemmas.Option.{none-some, same_Some}
use Rattle.std.proofs.lemmas.Str.{IsUtf8-from_ascii}
use Rattle.std.proofs.lemmas.Str.Ascii.{IsAscii-cons, IsAscii-nil}
use Rattle.hex.specs.Hex.{IsBytes, decode_of, encode_lower, encode_with, hex_digit_value, lower_digits}
use Rattle.hex.specs.declared.error.FromHexError.{FromHexError}
use Rattle.hex.proofs.HexLemmas.{IsAscii-encode_with, IsDigits-lower_digits, decode_of-encode_lower, decode_of-ok}
use Rattle.xp_base.specs.declared.codes.EvalError.{EvalError}
use Rattle.xp_base.specs.declared.codes.EvalError.TheVariants as error
use Rattle.xp_characters.specs.declared.fault.TextFault.{TextFault}
use Rattle.xp_characters.specs.declared.fault.TextFault.TheVariants as fault
use Rattle.xp_bytea.specs.Texts.{begins_hex, bytes_in, decoded, escaped, escaped_from, from_digits, or_bad_text, piece, text, with_piece}
use Rattle.xp_io.specs.Forms.{has_zero_byte}

-- ---- what is read

hex_error : (r : Result (List ℕ) FromHexError) (e : EvalError) → decoded error.BadText r ≡ Err (fault.Raised e) → e ≡ error.BadText
hex_error (Ok bytes) e h = cc h
hex_error (Err f) e h = cc h

escape_error : (o : Option (List ℕ)) (e : EvalError) → or_bad_text o ≡ Err (fault.Raised e) → e ≡ error.BadText
escape_error (Some bytes) e h = cc h
escape_error None e h = cc h

-- a text that is no bytes has one error
pub one_error : (text : List ℕ) (e : EvalError) → bytes_in text ≡ Err (fault.Raised e) → e ≡ error.BadText
one_error text e = by (begins_hex text)
  where
    by : (b : Bool) → (if b then from_digits (drop 2 text) error.BadText else escaped text) ≡ Err (fault.Raised e) → e ≡ error.BadText
    by true = hex_error (decode_of (drop 2 text)) e
    by false = escape_error (escaped_from 0 text) e

hex_bytes : (r : Result (List ℕ) FromHexError) (bytes : List ℕ) → decoded error.BadText r ≡ Ok bytes → r ≡ Ok bytes
hex_bytes (Ok own) bytes h = cc h
hex_bytes (Err f) bytes h = cc h

escape_bytes : (o : Option (List ℕ)) (bytes : List ℕ) → or_bad_text o ≡ Ok bytes → o ≡ Some bytes
escape_bytes (Some own) bytes h = cc h
escape_bytes None bytes h = cc h

longer : (first n : ℕ) (o : Option (List ℕ)) (bytes : List ℕ) → ((rest : List ℕ) → o ≡ Some rest → length rest ≤ n) → option_map (λ rest. first ∷ rest) o ≡ Some bytes → length bytes ≤ 1 + n
longer first n None bytes short h = absurd (none-some _ h)
longer first n (Some rest) bytes short h = let own = short rest refl in let same : first ∷ rest ≡ bytes = same_Some _ _ h in rw (← same) (omega arith)

with_first : (n : ℕ) (p : Option (ℕ × ℕ)) (others : ℕ → Option (List ℕ)) (bytes : List ℕ) → ((left : ℕ) (rest : List ℕ) → others left ≡ Some rest → length rest ≤ n) → with_piece p others ≡ Some bytes → length bytes ≤ 1 + n
with_first n None others bytes short h = absurd (none-some _ h)
with_first n (Some first) others bytes short h = longer first.0 n (others (first.1 - 1)) bytes (short (first.1 - 1)) h

escaped_short : (left : ℕ) (cs bytes : List ℕ) → escaped_from left cs ≡ Some bytes → length bytes ≤ length cs
escaped_short left [] bytes h = let same : [] ≡ bytes = same_Some _ _ h in rw (← same) (omega arith)
escaped_short (suc left) (c ∷ cs) bytes h = let own = escaped_short left cs bytes h in omega arith
escaped_short zero (c ∷ cs) bytes h = let own = with_first (length cs) (piece (c ∷ cs)) (λ left. escaped_from left cs) bytes (λ left rest. escaped_short left cs rest) h in omega (arith, own)

hex_short : (cs bytes : List ℕ) → decode_of (drop 2 cs) ≡ Ok bytes → length bytes ≤ length cs
hex_short cs bytes h =
    let size = (decode_of-ok (drop 2 cs) bytes h).2 in
    let dropped : length (drop 2 cs) ≡ length cs - 2 = length-drop 2 cs in
    omega (arith, size, dropped)

-- no more bytes than characters
pub bytes_short : (text bytes : List ℕ) → bytes_in text ≡ Ok bytes → length bytes ≤ length text
bytes_short text bytes = by (begins_hex text)
  where
    by : (b : Bool) → (if b then from_digits (drop 2 text) error.BadText else escaped text) ≡ Ok bytes → length bytes ≤ length text
    by true h = hex_short text bytes (hex_bytes (decode_of (drop 2 text)) bytes h)
    by false h = escaped_short 0 text bytes (escape_bytes (escaped_from 0 text) bytes h)

-- ---- what is written

abbrev all_small : List ℕ → Bool
all_small [] = true
all_small (c ∷ cs) = nat_lt c 128 && all_small cs

ascii : (cs : List ℕ) → all_small cs ≡ true → IsAscii cs
ascii [] all = IsAscii-nil
ascii (c ∷ cs) all = let parts = and_parts (nat_lt c 128) (all_small cs) all in IsAscii-cons c cs (ltb-true c 128 parts.0) (ascii cs parts.1)

digits_ascii : IsAscii lower_digits
digits_ascii = ascii lower_digits refl

pub bytea_utf8 : (bytes : List ℕ) → IsUtf8 (text bytes)
bytea_utf8 bytes =
    let digits : IsAscii (encode_lower bytes) = IsAscii-encode_with lower_digits bytes digits_ascii in
    IsUtf8-from_ascii (text bytes) (IsAscii-cons 92 (120 ∷ encode_lower bytes) (omega arith) (IsAscii-cons 120 (encode_lower bytes) (omega arith) digits))

no_zero_digit : (d : ℕ) → d < 16 → (slice_index lower_digits d == 0) ≡ false
no_zero_digit d h = ne_eqb (slice_index lower_digits d) 0 (λ e. none-some d (ap hex_digit_value (sym e) ∙ IsDigits-lower_digits d h))

digits_clean : (bytes : List ℕ) → IsBytes bytes → has_zero_byte (encode_lower bytes) ≡ false
unfolding encode_with
digits_clean [] fit = refl
digits_clean (b ∷ bytes) fit =
    let small : b < 256 = fit 0 in
    let high : b / 16 < 16 = omega arith in
    let low : b % 16 < 16 = omega arith in
    rw (no_zero_digit (b / 16) high, no_zero_digit (b % 16) low) (digits_clean bytes (λ i. fit (suc i)))

pub bytea_clean : (bytes : List ℕ) → IsBytes bytes → has_zero_byte (text bytes) ≡ false
bytea_clean bytes fit = digits_clean bytes fit

pub bytea_back : (bytes : List ℕ) → IsBytes bytes → bytes_in (text bytes) ≡ Ok bytes
bytea_back bytes fit = ap (decoded error.BadText) (decode_of-encode_lower bytes fit)
