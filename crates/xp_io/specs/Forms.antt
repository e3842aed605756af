-- The text forms of values: which value a text is (In), and the text of a value (Out) (manual 8.1, 8.3, 8.4, 8.5, 8.6).
use Rattle.std.specs.Prelude.{◌≡◌, ℕ, ℤ, ◌≤◌, List, [], Bool, true, false, not, ◌==◌, ◌&&◌, cond, length, nat_lt, Result, Ok, Err}
use Rattle.std.specs.List.{list_any}
use Rattle.std.specs.Fmt.{signed_decimal}
use Rattle.std.specs.Str.{is_utf8}
use Rattle.xp_base.specs.declared.codes.EvalError.{EvalError}
use Rattle.xp_base.specs.declared.codes.EvalError.TheVariants as error
use Rattle.xp_base.specs.declared.decimal.Dec.{Dec}
use Rattle.xp_base.specs.declared.limits.TheConstants.{VALUE_LIMIT}
use Rattle.xp_base.specs.OrMemory.{OrMemory}
use Rattle.xp_value.specs.declared.value.Value.{Value}
use Rattle.xp_value.specs.declared.value.Value.TheVariants as value
use Rattle.xp_value.specs.declared.value.Rep.TheVariants as rep
use Rattle.xp_value.specs.Representation.{Shape, plain, is_date}
use Rattle.xp_numeric.specs.Texts.{numeral, text as numeric_text}
use Rattle.xp_bytea.specs.Texts.{bytes_in, text as bytea_text}
use Rattle.xp_characters.specs.declared.fault.TextFault.{TextFault}
use Rattle.xp_date.specs.Texts.{date_in, text as date_text}
use Rattle.xp_io.specs.declared.reading.InFault.{InFault}
use Rattle.xp_io.specs.declared.reading.InFault.TheVariants as fault
use Rattle.xp_io.specs.Booleans.{input_bool, output_bool}
use Rattle.xp_io.specs.Integers.{input_integer}
use Rattle.xp_io.specs.Space.{trimmed}

abbrev pub has_zero_byte : List ℕ → Bool
has_zero_byte text = list_any (λ b. b == 0) text

-- UTF-8, without a zero byte
abbrev pub is_clean : List ℕ → Bool
is_clean text = is_utf8 text && not (has_zero_byte text)

-- ---- In

abbrev pub bool_value : Result Bool EvalError → Result Value EvalError
bool_value (Ok truth) = Ok (value.Bool truth)
bool_value (Err e) = Err e

abbrev pub int_value : Result ℤ EvalError → Result Value EvalError
int_value (Ok n) = Ok (value.Int n)
int_value (Err e) = Err e

abbrev pub num_value : Result Dec EvalError → Result Value EvalError
num_value (Ok d) = Ok (value.Num d)
num_value (Err e) = Err e

abbrev pub day_value : Result ℤ EvalError → Result Value EvalError
day_value (Ok day) = Ok (value.Day day)
day_value (Err e) = Err e

-- what is no text of bytes has one error
abbrev pub bytes_value : Result (List ℕ) TextFault → Result Value EvalError
bytes_value (Ok bytes) = Ok (value.Bytes bytes)
bytes_value (Err f) = Err error.BadText

-- by the form of the representation; white space counts in a text, a bpchar and a bytea
abbrev pub by_form : Shape → List ℕ → Result Value EvalError
by_form (plain rep.Bool) text = bool_value (input_bool text)
by_form (plain rep.Int2) text = int_value (input_integer 16 text)
by_form (plain rep.Int4) text = int_value (input_integer 32 text)
by_form (plain rep.Int8) text = int_value (input_integer 64 text)
by_form (plain rep.Num) text = num_value (numeral (trimmed text))
by_form (plain rep.Day) text = day_value (date_in (trimmed text))
by_form (plain rep.Text) text = Ok (value.Text text)
by_form (plain rep.Pad) text = Ok (value.Pad text)
by_form (plain rep.Bytes) text = bytes_value (bytes_in text)
by_form shape text = Ok (value.Opaque text)

-- the value that a text is; a text of any type is clean, and then no longer than a value may be
abbrev pub input : Shape → List ℕ → Result Value EvalError
input shape text =
    cond (is_clean text) (cond (nat_lt VALUE_LIMIT (length text)) (Err error.Limit) (by_form shape text)) (Err error.BadCharacter)

-- ---- Out

-- a day outside the years has no text
abbrev pub output_day : ℤ → List ℕ
output_day day = cond (is_date day) (date_text day) []

-- the text of a value that isn't null
abbrev pub output : Value → List ℕ
output (value.Bool truth) = output_bool truth
output (value.Int n) = signed_decimal n
output (value.Num d) = numeric_text d
output (value.Day day) = output_day day
output (value.Text text) = text
output (value.Pad text) = text
output (value.Bytes bytes) = bytea_text bytes
output (value.Opaque text) = text
output v = []

-- a text in the value has a zero byte
abbrev pub has_zero : Value → Bool
has_zero (value.Text text) = has_zero_byte text
has_zero (value.Pad text) = has_zero_byte text
has_zero (value.Opaque text) = has_zero_byte text
has_zero v = false

-- a value's text, where it is no longer than a text may be and has no zero byte, is that value
abbrev pub ReadsBack : Shape → Value → Type 0
ReadsBack shape v = length (output v) ≤ VALUE_LIMIT → has_zero v ≡ false → input shape (output v) ≡ Ok v

-- ---- what `read_value` answers

abbrev pub is_want : InFault → Bool
is_want fault.Memory = true
is_want (fault.Bad e) = false

abbrev pub answered : Result Value EvalError → Result Value InFault
answered (Ok v) = Ok v
answered (Err e) = Err (fault.Bad e)

-- what reading says, or want of memory
abbrev pub Reads : Result Value EvalError → Result Value InFault → Type 0
Reads said result = OrMemory is_want (answered said) result
