-- The plain function that reads a statement from the front of a text, piece by piece, as the code does.
use Rattle.std.specs.Prelude.{◌≡◌, ℕ, zero, suc, ◌+◌, ◌-◌, ◌*◌, ◌^◌, min, Bool, true, false, not, ◌&&◌, ◌||◌, if◌then◌else◌, ◌==◌, nat_lt, List, [], ◌∷◌, ◌++◌, length, take, drop, slice_index, Option, Some, None, Result, Ok, Err}
use Rattle.std.specs.Char.{digit_value, is_digit}
use Rattle.std.specs.List.{prefix_len}
use Rattle.std.specs.Str.{str_to_ascii_lowercase}
use Rattle.xp_base.specs.OrMemory.{OrMemory}
use Rattle.xp_lexer.specs.declared.numbers.Exponent.{Exponent}
use Rattle.xp_lexer.specs.declared.numbers.Exponent.TheVariants as shift
use Rattle.xp_lexer.specs.declared.scan_error.ScanError.{ScanError}
use Rattle.xp_lexer.specs.declared.scan_error.ScanError.TheVariants as error
use Rattle.xp_token.specs.declared.token.Mark.TheVariants as mark
use Rattle.xp_token.specs.declared.token.Mark.{Mark}
use Rattle.xp_token.specs.Lexemes.{Lexeme, Placed, QuotedName, Constant, OperatorOf, MarkOf, EndOf}
use Rattle.xp_token.specs.Ended.{is_end}
use Rattle.xp_token.specs.Words.{word_named}
use Rattle.xp_lexer.specs.Meaning.{named, base_of, is_absent, number_of, goes_on, spelled, clean_len, is_prefix, begins_number, is_trailing_junk, token_at, fault_of, Answer}
use Rattle.xp_base.specs.Operators.{is_sign, is_special_byte, is_operator_byte}
use Rattle.xp_lexer.specs.Bytes.{Text, first, is_space, is_decimal, begins_name, is_name_byte, opens_comment}

-- the text from the end of the line on
abbrev pub line_rest : Text → Text
line_rest [] = []
line_rest (b ∷ z) = if b == 10 then b ∷ z else line_rest z

-- The text behind n open comments. A byte may be the second of an opening or a closing.
abbrev pub comment_rest : ℕ → Bool → Text → Option Text
comment_rest n second [] = None
comment_rest n true (b ∷ z) = if n == 0 then Some z else comment_rest n false z
comment_rest n false (b ∷ z) =
    if b == 47 && first z == 42 then comment_rest (n + 1) true z
    else (if b == 42 && first z == 47 then comment_rest (n - 1) true z else comment_rest n false z)

-- the text from the quote on that goes on with a string constant
abbrev pub continued : Bool → Text → Option Text
continued newline [] = None
continued newline (b ∷ z) =
    if newline && b == 39 then Some (b ∷ z) else (if not (is_space b) then None else continued (newline || b == 10) z)

-- ---- what a function of the code answers

abbrev pub is_memory : ScanError → Bool
is_memory error.Memory = true
is_memory _ = false

-- reading gives this error, unless memory ran out
abbrev pub Fails : {Y : Type 0} → ScanError → Result Y ScanError → Type 0
Fails e read = OrMemory is_memory read (Err e)

-- what a function returned, seen by view, is what reading gives, unless memory ran out
abbrev pub Gives : {X Y : Type 0} → (X → Y) → Result X ScanError → Result Y ScanError → Type 0
Gives view (Ok x) read = read ≡ Ok (view x)
Gives view (Err e) read = Fails e read

infixl 10 ◌>>=◌
abbrev pub ◌>>=◌ : {A B : Type 0} → Result A ScanError → (A → Result B ScanError) → Result B ScanError
(Ok x) >>= f = f x
(Err e) >>= f = Err e

-- ---- names

abbrev pub name_len : Text → ℕ
name_len z = prefix_len is_name_byte z

unfoldable pub name : Text → Result (Lexeme × Text) ScanError
name z =
    let folded = str_to_ascii_lowercase (take (name_len z) z) in
    Ok (named (word_named folded) folded, drop (name_len z) z)

-- ---- numbers. A value of more than 38 digits stands still at the least such number.

abbrev pub extended : ℕ → ℕ → ℕ → ℕ
extended base value digit = min (value * base + digit) (10 ^ 38)

-- the value and the count of the digits, each of which may have one underscore before it, and the text behind them
abbrev pub digits : ℕ → ℕ → ℕ → Text → ℕ × ℕ × Text
digits base value count [] = (value, count, [])
digits base value count (b ∷ z) =
    if is_digit b base then digits base (extended base value (digit_value b)) (count + 1) z
    else (if b == 95 && is_digit (first z) base then digits base value count z else (value, count, b ∷ z))

unfoldable pub decimals : ℕ → Text → ℕ × ℕ × Text
decimals value z = if is_decimal (first z) then digits 10 value 0 z else (value, 0, z)

unfoldable pub fraction : ℕ → Text → ℕ × ℕ × Text
fraction value z = if first z == 46 then decimals value (drop 1 z) else (value, 0, z)

unfoldable pub sign : Text → Bool × Text
sign z = if first z == 43 || first z == 45 then (first z == 45, drop 1 z) else (false, z)

abbrev pub exponent_of : Exponent → ℕ
exponent_of shift.Absent = 0
exponent_of (shift.Up by) = by
exponent_of (shift.Down by) = by

abbrev pub signed : Bool → ℕ → Exponent
signed true by = shift.Down by
signed false by = shift.Up by

unfoldable pub exponent_digits : Bool → Text → Exponent × Text
exponent_digits down z = (signed down (digits 10 0 0 z).0, (digits 10 0 0 z).2)

unfoldable pub exponent_at : Text → Exponent × Text
exponent_at z =
    if (first z == 101 || first z == 69) && is_decimal (first (sign (drop 1 z)).1)
    then exponent_digits (sign (drop 1 z)).0 (sign (drop 1 z)).1 else (shift.Absent, z)

unfoldable pub raised : ℕ → ℕ → ℕ
raised value places = min (value * 10 ^ places) (10 ^ 38)

-- the coefficient and the scale of a value with so many decimals and this exponent
abbrev pub shifted : ℕ → ℕ → Exponent → ℕ × ℕ
shifted value decimals shift.Absent = (value, decimals)
shifted value decimals (shift.Up by) = (raised value (by - decimals), decimals - by)
shifted value decimals (shift.Down by) = (value, decimals + by)

-- a number with a fraction and an exponent that were read
unfoldable pub decimal_of : ℕ × ℕ × Text → Exponent → Bool → Lexeme
decimal_of f x whole = number_of (shifted f.0 f.1 x).0 (shifted f.0 f.1 x).1 whole

unfoldable pub decimal : Text → Lexeme × Text
decimal z =
    let w = digits 10 0 0 z in
    let f = fraction w.0 w.2 in
    let x = exponent_at f.2 in
    (decimal_of f x.0 (not (first w.2 == 46) && is_absent x.0), x.1)

-- 0 and a letter begin a number in another base, where a digit of it follows
abbrev pub names_base : Text → Bool
names_base z = first z == 48 && not (base_of (slice_index z 1) == 10)

unfoldable pub number : Text → Lexeme × Text
number z =
    let d = digits (base_of (slice_index z 1)) 0 0 (drop 2 z) in
    if names_base z && nat_lt 0 d.1 then (number_of d.0 0 true, d.2) else decimal z

-- ---- operators

-- The length of the operator: of all its bytes where one of them lets it end in a sign, else up to the last that is no sign.
abbrev pub operator_len : ℕ → ℕ → Bool → Text → ℕ
operator_len len kept free [] = if free then len else kept
operator_len len kept free (b ∷ z) =
    if goes_on b (first z) then operator_len (len + 1) (if is_sign b then kept else len + 1) (free || is_special_byte b) z
    else (if free then len else kept)

unfoldable pub cut : ℕ → Text → Result (Lexeme × Text) ScanError
cut len z = Ok (OperatorOf (spelled (take len z)), drop len z)

-- ---- what is quoted

-- how many bytes stand before the closing quote; a byte may be the second of a doubled one
abbrev pub raw_len : ℕ → Bool → ℕ → Text → Option ℕ
raw_len quote second len [] = None
raw_len quote true len (b ∷ z) = raw_len quote false (len + 1) z
raw_len quote false len (b ∷ z) =
    if b == quote then (if first z == quote then raw_len quote true (len + 1) z else Some len)
    else raw_len quote false (len + 1) z

-- each doubled quote as one
abbrev pub undoubled : ℕ → Bool → Text → Text
undoubled quote second [] = []
undoubled quote second (b ∷ z) = if second && b == quote then undoubled quote false z else b ∷ undoubled quote (b == quote) z

abbrev pub contents : ℕ → Text → Result Text ScanError
contents quote raw = Ok (undoubled quote false raw)

abbrev pub part_of : ℕ → Text → Option ℕ → Result (Text × Text) ScanError
part_of quote z None = Err (error.Unclosed (length z + 1))
part_of quote z (Some len) =
    if nat_lt (clean_len (take len z)) len then Err (error.BadByte (length z - clean_len (take len z)))
    else Ok (undoubled quote false (take len z), drop (len + 1) z)

-- what is quoted, behind the opening quote, and the text behind the closing one
unfoldable pub part : ℕ → Text → Result (Text × Text) ScanError
part quote z = part_of quote z (raw_len quote false 0 z)

abbrev pub then_more : (Text → Text → Result (Text × Text) ScanError) → Text → Text → Option Text → Result (Text × Text) ScanError
then_more go text z None = Ok (text, z)
then_more go text z (Some q) = part 39 (drop 1 q) >>= (λ p. go (text ++ p.0) p.1)

-- the text with at most n parts more
abbrev pub more_parts : ℕ → Text → Text → Result (Text × Text) ScanError
more_parts zero text z = Ok (text, z)
more_parts (suc n) text z = then_more (more_parts n) text z (continued false z)

-- the text with all parts that follow
unfoldable pub all_parts : Text → Text → Result (Text × Text) ScanError
all_parts text z = more_parts (length z) text z

-- a string constant, behind its opening quote
unfoldable pub string : Text → Result (Lexeme × Text) ScanError
string z = (part 39 z >>= (λ p. all_parts p.0 p.1)) >>= (λ s. Ok (Constant s.0, s.1))

-- a quoted name, behind its opening quote
unfoldable pub quoted_name : Text → Result (Lexeme × Text) ScanError
quoted_name z = part 34 z >>= (λ p. if length p.0 == 0 then Err (error.BadByte (length z + 1)) else Ok (QuotedName p.0, p.1))

-- ---- one piece

unfoldable pub word : Text → Result (Lexeme × Text) ScanError
word z = if is_prefix z then Err (error.BadByte (length z)) else name z

-- Behind an operator a sign stands alone, since that operator would have gone on with it.
unfoldable pub operator : Bool → Text → Result (Lexeme × Text) ScanError
operator alone z = cut (if alone then 1 else operator_len 0 1 false z) z

abbrev pub one_byte : Mark → Text → Result (Lexeme × Text) ScanError
one_byte m z = Ok (MarkOf m, drop 1 z)

unfoldable pub mark_at : Text → Result (Lexeme × Text) ScanError
mark_at z =
    let b = first z in
    if b == 40 then one_byte mark.OpenParen z
    else (if b == 41 then one_byte mark.CloseParen z
    else (if b == 91 then one_byte mark.OpenBracket z
    else (if b == 93 then one_byte mark.CloseBracket z
    else (if b == 44 then one_byte mark.Comma z
    else (if b == 46 then one_byte mark.Point z
    else (if b == 58 && slice_index z 1 == 58 then Ok (MarkOf mark.DoubleColon, drop 2 z)
    else Err (error.BadByte (length z))))))))

unfoldable pub token : Bool → Text → Result (Lexeme × Text) ScanError
token alone z =
    let b = first z in
    if b == 39 then string (drop 1 z)
    else (if b == 34 then quoted_name (drop 1 z)
    else (if begins_number z then Ok (number z)
    else (if begins_name b then word z
    else (if is_operator_byte b then operator alone z
    else mark_at z))))

abbrev pub behind_comment : Text → Option Text → Result Text ScanError
behind_comment z None = Err (error.Unclosed (length z))
behind_comment z (Some rest) = Ok rest

-- a comment, which two bytes open
unfoldable pub comment : Text → Result Text ScanError
comment z = if first z == 45 then Ok (line_rest z) else behind_comment z (comment_rest 1 false (drop 2 z))

abbrev pub Scanned : Type 0
Scanned = Result (Option Lexeme × Text) ScanError

-- white space, a comment, a token or the end
unfoldable pub scan_next : Bool → Text → Scanned
scan_next alone z =
    let b = first z in
    if length z == 0 then Ok (Some EndOf, z)
    else (if is_space b then Ok (None, drop 1 z)
    else (if opens_comment b (slice_index z 1) then comment z >>= (λ rest. Ok (None, rest))
    else (if b == 59 then Ok (Some EndOf, drop 1 z)
    else token alone z >>= (λ p. Ok (Some p.0, p.1)))))

-- ---- the statement

abbrev pub is_operator : Lexeme → Bool
is_operator (OperatorOf o) = true
is_operator _ = false

abbrev pub Statement : Type 0
Statement = Result (List Placed × Text) ScanError

abbrev pub with_front : List Placed → Statement → Statement
with_front front read = read >>= (λ q. Ok (front ++ q.0, q.1))

-- whether one token more may stand between the text and its rest, where `room` is how many there may be
unfoldable pub admitted : ℕ → Text → Text → Lexeme → Result (Unit {0}) ScanError
admitted room z rest k =
    if room == 0 then Err (error.TooManyTokens (length z)) else (if is_trailing_junk k rest then Err (error.BadByte (length rest)) else Ok tt)

-- what follows a piece
abbrev pub onward : (ℕ → Bool → Text → Statement) → ℕ → ℕ → Text → Option Lexeme → Text → Statement
onward go total room z None rest = go room false rest
onward go total room z (Some k) rest =
    if is_end k then Ok (token_at total z rest k ∷ [], rest)
    else admitted room z rest k >>= (λ _. with_front (token_at total z rest k ∷ []) (go (room - 1) (is_operator k) rest))

-- the statement in at most n pieces
abbrev pub pieces : ℕ → ℕ → ℕ → Bool → Text → Statement
pieces zero total room alone z = Err error.Memory
pieces (suc n) total room alone z = scan_next alone z >>= (λ p. onward (pieces n total) total room z p.0 p.1)

-- the tokens of a statement with its end, and the text behind it; behind an operator a sign stands alone
unfoldable pub statement : ℕ → ℕ → Bool → Text → Statement
statement total room alone z = pieces (suc (length z)) total room alone z

abbrev pub finished : ℕ → Statement → Answer
finished total (Ok q) = Ok (q.0, total - length q.1)
finished total (Err t) = Err (fault_of total t)
