-- Which tokens a text is, by cases on the text, and what is wrong with one that is none (manual 4.1).
-- `F z .. rest` says that F stands at the front of z, and that rest stands behind it.
use Rattle.std.specs.Prelude.{◌≡◌, ℕ, ◌+◌, ◌-◌, ◌*◌, ◌^◌, ◌<◌, ◌≤◌, Bool, true, false, not, ◌&&◌, ◌||◌, ◌==◌, List, [], ◌∷◌, ◌++◌, length, drop, slice_index, Result, Ok, Err}
use Rattle.std.specs.Char.{digit_value, is_digit}
use Rattle.std.specs.List.{list_any, list_all}
use Rattle.std.specs.Str.{str_to_ascii_lowercase}
use Rattle.xp_base.specs.declared.limits.TheConstants.{TOKEN_LIMIT}
use Rattle.xp_lexer.specs.declared.numbers.Exponent.{Exponent}
use Rattle.xp_lexer.specs.declared.numbers.Exponent.TheVariants as shift
use Rattle.xp_token.specs.declared.token.Mark.TheVariants as mark
use Rattle.xp_lexer.specs.declared.lexed.Lexed.{Lexed}
use Rattle.xp_lexer.specs.declared.lexed.LexFault.{LexFault}
use Rattle.xp_lexer.specs.declared.lexed.LexFault.TheVariants as fault
use Rattle.xp_lexer.specs.declared.scan_error.ScanError.{ScanError}
use Rattle.xp_lexer.specs.declared.scan_error.ScanError.TheVariants as error
use Rattle.xp_base.specs.Operators.{is_sign, is_special_byte}
use Rattle.xp_lexer.specs.Bytes.{Text, first, is_space, is_decimal, begins_name, is_name_byte, opens_comment}
use Rattle.xp_token.specs.Lexemes.{Lexeme, Placed, all_placed, QuotedName, Constant, OperatorOf, MarkOf, EndOf}
use Rattle.xp_token.specs.Words.{word_named}
use Rattle.xp_lexer.specs.Meaning.{named, number_of, base_of, is_absent, begins_number, goes_on, spelled, clean_len, is_prefix, is_trailing_junk, token_at, fault_of, Answer}

-- ---- white space and comments

-- the rest of a line, up to its newline or the end of the text
pub data Line : Text → Text → Type 0 where
  at_end : Line [] []
  at_newline : (z : Text) → Line (10 ∷ z) (10 ∷ z)
  passes : (b : ℕ) (z rest : Text) → (b == 10) ≡ false → Line z rest → Line (b ∷ z) rest

-- n open comments: /* opens one more, */ closes one, and every other byte is passed over
pub data Comments : ℕ → Text → Text → Type 0 where
  closed : (rest : Text) → Comments 0 rest rest
  opens : (n : ℕ) (z rest : Text) → 0 < n → Comments (n + 1) z rest → Comments n (47 ∷ 42 ∷ z) rest
  closes : (n : ℕ) (z rest : Text) → 0 < n → Comments (n - 1) z rest → Comments n (42 ∷ 47 ∷ z) rest
  other : (n b : ℕ) (z rest : Text) → 0 < n → (b == 47 && first z == 42) ≡ false → (b == 42 && first z == 47) ≡ false → Comments n z rest → Comments n (b ∷ z) rest

-- a byte of white space, or a comment
pub data Gap : Text → Text → Type 0 where
  space : (b : ℕ) (z : Text) → is_space b ≡ true → Gap (b ∷ z) z
  line : (z rest : Text) → Line z rest → Gap (45 ∷ 45 ∷ z) rest
  comment : (z rest : Text) → Comments 1 z rest → Gap (47 ∷ 42 ∷ z) rest

-- ---- names

-- the longest front whose bytes pass, and the rest
pub data Longest (p : ℕ → Bool) : Text → Text → Text → Type 0 where
  at_end : Longest p [] [] []
  stops : (b : ℕ) (rest : Text) → p b ≡ false → Longest p (b ∷ rest) [] (b ∷ rest)
  passes : (b : ℕ) (z front rest : Text) → p b ≡ true → Longest p z front rest → Longest p (b ∷ z) (b ∷ front) rest

-- ---- what is quoted

-- Behind an opening quote: the bytes as they stand, the text that they are, and the rest behind the closing quote.
pub data Quoted (quote : ℕ) : Text → Text → Text → Text → Type 0 where
  ends : (rest : Text) → (first rest == quote) ≡ false → Quoted quote (quote ∷ rest) [] [] rest
  doubled : (z raw text rest : Text) → Quoted quote z raw text rest → Quoted quote (quote ∷ quote ∷ z) (quote ∷ quote ∷ raw) (quote ∷ text) rest
  byte : (b : ℕ) (z raw text rest : Text) → (b == quote) ≡ false → Quoted quote z raw text rest → Quoted quote (b ∷ z) (b ∷ raw) (b ∷ text) rest

-- all bytes are of whole characters other than the zero byte
abbrev pub IsClean : Text → Type 0
IsClean raw = clean_len raw ≡ length raw

abbrev pub IsOpen : ℕ → Text → Type 0
IsOpen quote z = (raw text rest : Text) → Quoted quote z raw text rest → ⊥

-- White space with a newline in it, or behind one, and the quote of the next part of a constant.
pub data Continues : Bool → Text → Text → Type 0 where
  at_quote : (z : Text) → Continues true (39 ∷ z) z
  space : (newline : Bool) (b : ℕ) (z rest : Text) → is_space b ≡ true → Continues (newline || b == 10) z rest → Continues newline (b ∷ z) rest

-- a string constant, behind its opening quote, with all its parts
pub data Parts : Text → Text → Text → Type 0 where
  last : (z raw text rest : Text) → Quoted 39 z raw text rest → IsClean raw → ((next : Text) → Continues false rest next → ⊥) → Parts z text rest
  more : (z raw text behind next others rest : Text) → Quoted 39 z raw text behind → IsClean raw → Continues false behind next → Parts next others rest → Parts z (text ++ others) rest

-- ---- numbers

-- Digits, each of which may have one underscore before it: they take a value and a count on to another value and count.
pub data Digits (base : ℕ) : ℕ → ℕ → Text → ℕ → ℕ → Text → Type 0 where
  stops : (value count : ℕ) (rest : Text) → is_digit (first rest) base ≡ false → (first rest == 95 && is_digit (slice_index rest 1) base) ≡ false → Digits base value count rest value count rest
  digit : (value count b value' count' : ℕ) (z rest : Text) → is_digit b base ≡ true → Digits base (value * base + digit_value b) (count + 1) z value' count' rest → Digits base value count (b ∷ z) value' count' rest
  underscore : (value count value' count' : ℕ) (z rest : Text) → is_digit (first z) base ≡ true → Digits base value count z value' count' rest → Digits base value count (95 ∷ z) value' count' rest

-- decimal digits, where one stands in front
pub data Decimals : ℕ → Text → ℕ → ℕ → Text → Type 0 where
  some : (value value' count : ℕ) (z rest : Text) → is_decimal (first z) ≡ true → Digits 10 value 0 z value' count rest → Decimals value z value' count rest
  none : (value : ℕ) (z : Text) → is_decimal (first z) ≡ false → Decimals value z value 0 z

-- a point with or without digits behind it, or nothing
pub data Fraction : ℕ → Text → ℕ → ℕ → Text → Type 0 where
  point : (value value' count : ℕ) (z rest : Text) → Decimals value z value' count rest → Fraction value (46 ∷ z) value' count rest
  none : (value : ℕ) (z : Text) → (first z == 46) ≡ false → Fraction value z value 0 z

-- a sign that may stand before digits; true is a minus
pub data Sign : Text → Bool → Text → Type 0 where
  plus : (z : Text) → Sign (43 ∷ z) false z
  minus : (z : Text) → Sign (45 ∷ z) true z
  none : (z : Text) → (first z == 43 || first z == 45) ≡ false → Sign z false z

abbrev pub is_exponent_letter : ℕ → Bool
is_exponent_letter b = b == 101 || b == 69

abbrev pub exponent : Bool → ℕ → Exponent
exponent true by = shift.Down by
exponent false by = shift.Up by

-- the letter, a sign, and digits; where no digit comes, there is no exponent
pub data Power : Text → Exponent → Text → Type 0 where
  some : (letter : ℕ) (z digits rest : Text) (down : Bool) (by count : ℕ) → is_exponent_letter letter ≡ true → Sign z down digits → is_decimal (first digits) ≡ true → Digits 10 0 0 digits by count rest → Power (letter ∷ z) (exponent down by) rest
  no_letter : (z : Text) → is_exponent_letter (first z) ≡ false → Power z shift.Absent z
  no_digit : (letter : ℕ) (z digits : Text) (down : Bool) → is_exponent_letter letter ≡ true → Sign z down digits → is_decimal (first digits) ≡ false → Power (letter ∷ z) shift.Absent (letter ∷ z)

-- the coefficient and the scale of digits of which so many are decimals, after the exponent
abbrev pub scaled : ℕ → ℕ → Exponent → ℕ × ℕ
scaled value count shift.Absent = (value, count)
scaled value count (shift.Up by) = (value * 10 ^ (by - count), count - by)
scaled value count (shift.Down by) = (value, count + by)

-- 0, the letter of a base, and digits of it
pub data Based : Text → ℕ → Text → Type 0 where
  based : (letter value count : ℕ) (z rest : Text) → (base_of letter == 10) ≡ false → Digits (base_of letter) 0 0 z value count rest → 0 < count → Based (48 ∷ letter ∷ z) value rest

-- ---- operators

-- the longest run of operator bytes in which no comment begins
pub data Run : Text → Text → Text → Type 0 where
  stops : (rest : Text) → goes_on (first rest) (slice_index rest 1) ≡ false → Run rest [] rest
  goes : (b : ℕ) (z run rest : Text) → goes_on b (first z) ≡ true → Run z run rest → Run (b ∷ z) (b ∷ run) rest

abbrev pub ends_plain : Text → Bool
ends_plain [] = false
ends_plain (b ∷ []) = not (is_sign b)
ends_plain (b ∷ c ∷ z) = ends_plain (c ∷ z)

-- how a run is cut: whole where a byte lets it end in a sign, else before its last signs, down to one byte
pub data Trims : Text → Text → Text → Type 0 where
  whole : (run : Text) → list_any is_special_byte run ≡ true → Trims run run []
  cut : (operator signs : Text) → list_any is_special_byte (operator ++ signs) ≡ false → list_all is_sign signs ≡ true → (length operator == 1 || ends_plain operator) ≡ true → Trims (operator ++ signs) operator signs

-- ---- the tokens

-- a name in lower case, or the reserved word that it is
abbrev pub folded : Text → Lexeme
folded name = named (word_named (str_to_ascii_lowercase name)) (str_to_ascii_lowercase name)

pub data Reads : Text → Lexeme → Text → Type 0 where
  string : (z text rest : Text) → Parts z text rest → Reads (39 ∷ z) (Constant text) rest
  quoted : (z raw text rest : Text) → Quoted 34 z raw text rest → IsClean raw → (length text == 0) ≡ false → Reads (34 ∷ z) (QuotedName text) rest
  based : (z : Text) (value : ℕ) (rest : Text) → Based z value rest → Reads z (number_of value 0 true) rest
  decimal : (z whole point rest : Text) (value value' count count' : ℕ) (x : Exponent) → begins_number z ≡ true → ((value : ℕ) (rest : Text) → Based z value rest → ⊥)
      → Digits 10 0 0 z value count whole → Fraction value whole value' count' point → Power point x rest
      → Reads z (number_of (scaled value' count' x).0 (scaled value' count' x).1 (not (first whole == 46) && is_absent x)) rest
  name : (z name rest : Text) → begins_name (first z) ≡ true → is_prefix z ≡ false → Longest is_name_byte z name rest → Reads z (folded name) rest
  operator : (z run operator signs rest : Text) → goes_on (first z) (slice_index z 1) ≡ true → Run z run rest → Trims run operator signs → Reads z (OperatorOf (spelled operator)) (signs ++ rest)
  open_paren : (z : Text) → Reads (40 ∷ z) (MarkOf mark.OpenParen) z
  close_paren : (z : Text) → Reads (41 ∷ z) (MarkOf mark.CloseParen) z
  open_bracket : (z : Text) → Reads (91 ∷ z) (MarkOf mark.OpenBracket) z
  close_bracket : (z : Text) → Reads (93 ∷ z) (MarkOf mark.CloseBracket) z
  comma : (z : Text) → Reads (44 ∷ z) (MarkOf mark.Comma) z
  point : (z : Text) → is_decimal (first z) ≡ false → Reads (46 ∷ z) (MarkOf mark.Point) z
  double_colon : (z : Text) → Reads (58 ∷ 58 ∷ z) (MarkOf mark.DoubleColon) z

-- the end of a statement
pub data Stops : Text → Text → Type 0 where
  at_end : Stops [] []
  semicolon : (z : Text) → Stops (59 ∷ z) z

-- ---- a statement, in a text of `total` bytes

-- white space, comments and tokens, up to the rest; no letter, digit or underscore stands directly behind a number
pub data Passes (total : ℕ) : Text → List Placed → Text → Type 0 where
  here : (z : Text) → Passes total z [] z
  gap : (z mid rest : Text) (tokens : List Placed) → Gap z mid → Passes total mid tokens rest → Passes total z tokens rest
  token : (z mid rest : Text) (k : Lexeme) (tokens : List Placed) → Reads z k mid → is_trailing_junk k mid ≡ false → Passes total mid tokens rest → Passes total z (token_at total z mid k ∷ tokens) rest

-- ---- what is wrong at a place: the bytes that are left there

-- a string constant, behind its opening quote, of which a part has no end or a byte that is no character's
pub data BadParts : Text → ScanError → Type 0 where
  unclosed : (z : Text) → IsOpen 39 z → BadParts z (error.Unclosed (length z + 1))
  spoilt : (z raw text rest : Text) → Quoted 39 z raw text rest → clean_len raw < length raw → BadParts z (error.BadByte (length z - clean_len raw))
  later : (z raw text behind next : Text) (t : ScanError) → Quoted 39 z raw text behind → IsClean raw → Continues false behind next → BadParts next t → BadParts z t

pub data Bad : Text → ScanError → Type 0 where
  string : (z : Text) (t : ScanError) → BadParts z t → Bad (39 ∷ z) t
  unclosed_name : (z : Text) → IsOpen 34 z → Bad (34 ∷ z) (error.Unclosed (length z + 1))
  spoilt_name : (z raw text rest : Text) → Quoted 34 z raw text rest → clean_len raw < length raw → Bad (34 ∷ z) (error.BadByte (length z - clean_len raw))
  empty_name : (z raw text rest : Text) → Quoted 34 z raw text rest → IsClean raw → (length text == 0) ≡ true → Bad (34 ∷ z) (error.BadByte (length z + 1))
  unclosed_comment : (z : Text) → ((rest : Text) → Comments 1 z rest → ⊥) → Bad (47 ∷ 42 ∷ z) (error.Unclosed (length (47 ∷ 42 ∷ z)))
  -- no quote and no comment begins, and nothing else
  nothing : (b : ℕ) (z : Text) → (b == 39 || b == 34) ≡ false → opens_comment b (first z) ≡ false
      → ((rest : Text) → Gap (b ∷ z) rest → ⊥) → ((k : Lexeme) (rest : Text) → Reads (b ∷ z) k rest → ⊥) → ((rest : Text) → Stops (b ∷ z) rest → ⊥) → Bad (b ∷ z) (error.BadByte (length (b ∷ z)))

-- the first thing wrong with a statement that may have `room` tokens
pub data Fails (total room : ℕ) : Text → ScanError → Type 0 where
  bad : (text z : Text) (tokens : List Placed) (t : ScanError) → Passes total text tokens z → length tokens ≤ room → Bad z t → Fails total room text t
  trailing_junk : (text z rest : Text) (tokens : List Placed) (k : Lexeme) → Passes total text tokens z → length tokens < room → Reads z k rest → is_trailing_junk k rest ≡ true → Fails total room text (error.BadByte (length rest))
  too_many : (text z rest : Text) (tokens : List Placed) (k : Lexeme) → Passes total text tokens z → length tokens ≡ room → Reads z k rest → Fails total room text (error.TooManyTokens (length z))

-- what the statement that begins at a place is: at most 20,000 tokens and an End, and the place behind it, or the first fault
pub data IsAnswer (text : Text) (from : ℕ) : Answer → Type 0 where
  tokens : (all : List Placed) (z rest : Text) → Passes (length text) (drop from text) all z → length all ≤ TOKEN_LIMIT → Stops z rest → IsAnswer text from (Ok (all ++ token_at (length text) z rest EndOf ∷ [], length text - length rest))
  fails : (t : ScanError) → Fails (length text) TOKEN_LIMIT (drop from text) t → IsAnswer text from (Err (fault_of (length text) t))

-- what `lex` returned is what the statement is, unless memory ran out
abbrev pub IsRight : Text → ℕ → Result Lexed LexFault → Type 0
IsRight text from (Ok l) = IsAnswer text from (Ok (all_placed l.tokens, l.next))
IsRight text from (Err fault.Memory) = Unit {0}
IsRight text from (Err (fault.BadByte at)) = IsAnswer text from (Err (fault.BadByte at))
IsRight text from (Err (fault.Unclosed start)) = IsAnswer text from (Err (fault.Unclosed start))
IsRight text from (Err (fault.TooManyTokens at)) = IsAnswer text from (Err (fault.TooManyTokens at))
