-- The text of a value of a representation is that value's.
use Rattle.std.proofs.Common.{◌≡◌, ℕ, zero, suc, ◌<◌, ◌≤◌, ℤ, pos, negsuc, List, [], ◌∷◌, Bool, true, false, ◌==◌, Ok, length, nat_lt, refl, ap, ◌∙◌, subst, arith}
use Rattle.std.specs.Fmt.{decimal, signed_decimal}
use Rattle.std.specs.Str.{IsAscii, IsUtf8, is_utf8}
use Rattle.std.specs.Str.Parse.{AllDigits}
use Rattle.std.proofs.lemmas.Bool.{and_parts, false≢true, le-ltb, ne_eqb, true≢false}
use Rattle.std.proofs.lemmas.Str.{is_utf8-from_IsUtf8, IsUtf8-from_ascii}
use Rattle.std.proofs.lemmas.Fmt.{decimal_is_IsNumeral, IsAscii-from_digits}
use Rattle.xp_base.specs.declared.limits.TheConstants.{VALUE_LIMIT}
use Rattle.xp_value.specs.declared.value.Rep.{Rep}
use Rattle.xp_value.specs.declared.value.Rep.TheVariants as rep
use Rattle.xp_value.specs.declared.value.Value.{Value, Arr'}
use Rattle.xp_value.specs.declared.value.Value.TheVariants as value
use Rattle.xp_base.specs.declared.decimal.Dec.{Dec}
use Rattle.xp_value.specs.Representation.{Shape, plain, has_bits, is_date, is_of}
use Rattle.xp_numeric.specs.Texts.{numeral, text as numeric_text}
use Rattle.xp_numeric.proofs.RoundTrip.{read_back as numeric_back}
use Rattle.hex.specs.Hex.{IsBytes}
use Rattle.xp_bytea.specs.Texts.{text as bytea_text}
use Rattle.xp_date.specs.Texts.{date_in, text as date_text}
use Rattle.xp_date.proofs.Digits.{read_back as date_back}
use Rattle.xp_base.specs.declared.numbers.TypeNo.{TypeNo}
use Rattle.xp_catalog.specs.Contents.{Contents}
use Rattle.xp_catalog.specs.Rules.{kind_of, name_of}
use Rattle.xp_types.specs.Readers.{base}
use Rattle.xp_io.specs.Booleans.{output_bool}
use Rattle.xp_io.specs.Forms.{by_form, bytes_value, day_value, has_zero_byte, input, int_value, num_value, output, output_day, ReadsBack}
use Rattle.xp_value.specs.Null.{is_null}
use Rattle.xp_io.specs.Integers.{input_integer}
use Rattle.xp_io.specs.inner.Chars.{IsChars}
use Rattle.xp_io.specs.Representations.{is_built, rep_of, shape_of}
use Rattle.xp_io.proofs.Built.{kind_built}
use Rattle.xp_io.proofs.Bytes.{bytea_back, bytea_clean, bytea_utf8}
use Rattle.xp_io.proofs.Decimals.{in_range, small}
use Rattle.xp_io.proofs.Printed.{date_printed, no_zero, numeric_printed, printed_utf8, trims_printed}
use Rattle.xp_io.proofs.Decimals.{reads_back as integer_back}

-- a text that may be one of a value is read by its form
by_its_form : (s : Shape) (text : List ℕ) → IsUtf8 text → has_zero_byte text ≡ false → length text ≤ VALUE_LIMIT → input s text ≡ by_form s text
by_its_form s text utf8 clean short =
    let valid : is_utf8 text ≡ true = is_utf8-from_IsUtf8 text utf8 in
    let fits : nat_lt VALUE_LIMIT (length text) ≡ false = le-ltb VALUE_LIMIT (length text) short in
    rw (valid, clean, fits) refl

-- digits have no zero byte
digits_clean : (ds : List ℕ) → AllDigits 10 ds → has_zero_byte ds ≡ false
digits_clean [] all = refl
digits_clean (c ∷ ds) all = let other : (c == 0) ≡ false = ne_eqb c 0 (λ e. omega (arith, in_range c all.0)) in rw other (digits_clean ds all.1)

integer_clean : (width : ℕ) (n : ℤ) → width ≤ 64 → has_bits width n ≡ true → has_zero_byte (signed_decimal n) ≡ false
integer_clean width (pos n) few e = digits_clean (decimal n) (decimal_is_IsNumeral n (omega (arith, small width n few e))).0.1
integer_clean width (negsuc n) few e = digits_clean (decimal (suc n)) (decimal_is_IsNumeral (suc n) (omega (arith, small width n few e))).0.1

minus_ascii : (ds : List ℕ) → IsAscii ds → IsAscii (45 ∷ ds)
minus_ascii ds ascii zero = omega arith
minus_ascii ds ascii (suc i) = ascii i

integer_utf8 : (width : ℕ) (n : ℤ) → width ≤ 64 → has_bits width n ≡ true → IsUtf8 (signed_decimal n)
integer_utf8 width (pos n) few e =
    IsUtf8-from_ascii (decimal n) (IsAscii-from_digits (decimal n) (decimal_is_IsNumeral n (omega (arith, small width n few e))).0.1)
integer_utf8 width (negsuc n) few e =
    IsUtf8-from_ascii (45 ∷ decimal (suc n)) (minus_ascii (decimal (suc n)) (IsAscii-from_digits (decimal (suc n)) (decimal_is_IsNumeral (suc n) (omega (arith, small width n few e))).0.1))

integer : (s : Shape) (width : ℕ) (n : ℤ) → width ≤ 64 → has_bits width n ≡ true → ((text : List ℕ) → by_form s text ≡ int_value (input_integer width text)) → length (signed_decimal n) ≤ VALUE_LIMIT → input s (signed_decimal n) ≡ Ok (value.Int n)
integer s width n few e form short = by_its_form s (signed_decimal n) (integer_utf8 width n few e) (integer_clean width n few e) short ∙ form (signed_decimal n) ∙ ap int_value (integer_back width n few e)

letter_ascii : (c : ℕ) → c < 128 → IsAscii (c ∷ [])
letter_ascii c h zero = h
letter_ascii c h (suc i) = omega arith

bool_utf8 : (truth : Bool) → IsUtf8 (output_bool truth)
bool_utf8 true = IsUtf8-from_ascii (116 ∷ []) (letter_ascii 116 (omega arith))
bool_utf8 false = IsUtf8-from_ascii (102 ∷ []) (letter_ascii 102 (omega arith))

numeric : (d : Dec) → length (numeric_text d) ≤ VALUE_LIMIT → input (plain rep.Num) (numeric_text d) ≡ Ok (value.Num d)
numeric d short =
    let all = numeric_printed d in
    by_its_form (plain rep.Num) (numeric_text d) (printed_utf8 (numeric_text d) all) (no_zero (numeric_text d) all) short
    ∙ ap (λ t. num_value (numeral t)) (trims_printed (numeric_text d) all)
    ∙ ap num_value (numeric_back d)

day : (n : ℤ) → is_date n ≡ true → length (output_day n) ≤ VALUE_LIMIT → input (plain rep.Day) (output_day n) ≡ Ok (value.Day n)
day n e short =
    let all = date_printed n in
    let shown : output_day n ≡ date_text n = rw e refl in
    let fits : length (date_text n) ≤ VALUE_LIMIT = subst (λ t. length t ≤ VALUE_LIMIT) shown short in
    ap (input (plain rep.Day)) shown
    ∙ by_its_form (plain rep.Day) (date_text n) (printed_utf8 (date_text n) all) (no_zero (date_text n) all) fits
    ∙ ap (λ t. day_value (date_in t)) (trims_printed (date_text n) all)
    ∙ ap day_value (date_back n e)

bytea : (bytes : List ℕ) → IsBytes bytes → length (bytea_text bytes) ≤ VALUE_LIMIT → input (plain rep.Bytes) (bytea_text bytes) ≡ Ok (value.Bytes bytes)
bytea bytes fit short =
    by_its_form (plain rep.Bytes) (bytea_text bytes) (bytea_utf8 bytes) (bytea_clean bytes fit) short ∙ ap bytes_value (bytea_back bytes fit)

-- ---- by representations: values of any other kind aren't of them

of_bool : (v : Value) → is_null v ≡ false → is_of (plain rep.Bool) v ≡ true → IsChars v → ReadsBack (plain rep.Bool) v
of_bool value.Null some of utf8 = absurd (true≢false some)
of_bool (value.Bool true) some of utf8 = λ short clean. by_its_form (plain rep.Bool) (output (value.Bool true)) (bool_utf8 true) refl short
of_bool (value.Bool false) some of utf8 = λ short clean. by_its_form (plain rep.Bool) (output (value.Bool false)) (bool_utf8 false) refl short
of_bool (value.Int n) some of utf8 = absurd (false≢true of)
of_bool (value.Num d) some of utf8 = absurd (false≢true of)
of_bool (value.Text t) some of utf8 = absurd (false≢true of)
of_bool (value.Pad t) some of utf8 = absurd (false≢true of)
of_bool (value.Bytes b) some of utf8 = absurd (false≢true of)
of_bool (value.Day n) some of utf8 = absurd (false≢true of)
of_bool (Arr' shape elements) some of utf8 = absurd (false≢true of)
of_bool (value.Rng r) some of utf8 = absurd (false≢true of)
of_bool (value.Opaque t) some of utf8 = absurd (false≢true of)

of_int2 : (v : Value) → is_null v ≡ false → is_of (plain rep.Int2) v ≡ true → IsChars v → ReadsBack (plain rep.Int2) v
of_int2 value.Null some of utf8 = absurd (true≢false some)
of_int2 (value.Bool t) some of utf8 = absurd (false≢true of)
of_int2 (value.Int n) some of utf8 = λ short clean. integer (plain rep.Int2) 16 n (omega arith) (and_parts (has_bits 16 n) _ of).0 (λ text. refl) short
of_int2 (value.Num d) some of utf8 = absurd (false≢true of)
of_int2 (value.Text t) some of utf8 = absurd (false≢true of)
of_int2 (value.Pad t) some of utf8 = absurd (false≢true of)
of_int2 (value.Bytes b) some of utf8 = absurd (false≢true of)
of_int2 (value.Day n) some of utf8 = absurd (false≢true of)
of_int2 (Arr' shape elements) some of utf8 = absurd (false≢true of)
of_int2 (value.Rng r) some of utf8 = absurd (false≢true of)
of_int2 (value.Opaque t) some of utf8 = absurd (false≢true of)

of_int4 : (v : Value) → is_null v ≡ false → is_of (plain rep.Int4) v ≡ true → IsChars v → ReadsBack (plain rep.Int4) v
of_int4 value.Null some of utf8 = absurd (true≢false some)
of_int4 (value.Bool t) some of utf8 = absurd (false≢true of)
of_int4 (value.Int n) some of utf8 = λ short clean. integer (plain rep.Int4) 32 n (omega arith) (and_parts (has_bits 32 n) _ of).0 (λ text. refl) short
of_int4 (value.Num d) some of utf8 = absurd (false≢true of)
of_int4 (value.Text t) some of utf8 = absurd (false≢true of)
of_int4 (value.Pad t) some of utf8 = absurd (false≢true of)
of_int4 (value.Bytes b) some of utf8 = absurd (false≢true of)
of_int4 (value.Day n) some of utf8 = absurd (false≢true of)
of_int4 (Arr' shape elements) some of utf8 = absurd (false≢true of)
of_int4 (value.Rng r) some of utf8 = absurd (false≢true of)
of_int4 (value.Opaque t) some of utf8 = absurd (false≢true of)

of_int8 : (v : Value) → is_null v ≡ false → is_of (plain rep.Int8) v ≡ true → IsChars v → ReadsBack (plain rep.Int8) v
of_int8 value.Null some of utf8 = absurd (true≢false some)
of_int8 (value.Bool t) some of utf8 = absurd (false≢true of)
of_int8 (value.Int n) some of utf8 = λ short clean. integer (plain rep.Int8) 64 n (omega arith) (and_parts (has_bits 64 n) _ of).0 (λ text. refl) short
of_int8 (value.Num d) some of utf8 = absurd (false≢true of)
of_int8 (value.Text t) some of utf8 = absurd (false≢true of)
of_int8 (value.Pad t) some of utf8 = absurd (false≢true of)
of_int8 (value.Bytes b) some of utf8 = absurd (false≢true of)
of_int8 (value.Day n) some of utf8 = absurd (false≢true of)
of_int8 (Arr' shape elements) some of utf8 = absurd (false≢true of)
of_int8 (value.Rng r) some of utf8 = absurd (false≢true of)
of_int8 (value.Opaque t) some of utf8 = absurd (false≢true of)

of_num : (v : Value) → is_null v ≡ false → is_of (plain rep.Num) v ≡ true → IsChars v → ReadsBack (plain rep.Num) v
of_num value.Null some of utf8 = absurd (true≢false some)
of_num (value.Bool t) some of utf8 = absurd (false≢true of)
of_num (value.Int n) some of utf8 = absurd (false≢true of)
of_num (value.Num d) some of utf8 = λ short clean. numeric d short
of_num (value.Text t) some of utf8 = absurd (false≢true of)
of_num (value.Pad t) some of utf8 = absurd (false≢true of)
of_num (value.Bytes b) some of utf8 = absurd (false≢true of)
of_num (value.Day n) some of utf8 = absurd (false≢true of)
of_num (Arr' shape elements) some of utf8 = absurd (false≢true of)
of_num (value.Rng r) some of utf8 = absurd (false≢true of)
of_num (value.Opaque t) some of utf8 = absurd (false≢true of)

of_day : (v : Value) → is_null v ≡ false → is_of (plain rep.Day) v ≡ true → IsChars v → ReadsBack (plain rep.Day) v
of_day value.Null some of utf8 = absurd (true≢false some)
of_day (value.Bool t) some of utf8 = absurd (false≢true of)
of_day (value.Int n) some of utf8 = absurd (false≢true of)
of_day (value.Num d) some of utf8 = absurd (false≢true of)
of_day (value.Text t) some of utf8 = absurd (false≢true of)
of_day (value.Pad t) some of utf8 = absurd (false≢true of)
of_day (value.Bytes b) some of utf8 = absurd (false≢true of)
of_day (value.Day n) some of utf8 = λ short clean. day n (and_parts (is_date n) _ of).0 short
of_day (Arr' shape elements) some of utf8 = absurd (false≢true of)
of_day (value.Rng r) some of utf8 = absurd (false≢true of)
of_day (value.Opaque t) some of utf8 = absurd (false≢true of)

of_text : (v : Value) → is_null v ≡ false → is_of (plain rep.Text) v ≡ true → IsChars v → ReadsBack (plain rep.Text) v
of_text value.Null some of utf8 = absurd (true≢false some)
of_text (value.Bool t) some of utf8 = absurd (false≢true of)
of_text (value.Int n) some of utf8 = absurd (false≢true of)
of_text (value.Num d) some of utf8 = absurd (false≢true of)
of_text (value.Text t) some of utf8 = λ short clean. by_its_form (plain rep.Text) t utf8 clean short
of_text (value.Pad t) some of utf8 = absurd (false≢true of)
of_text (value.Bytes b) some of utf8 = absurd (false≢true of)
of_text (value.Day n) some of utf8 = absurd (false≢true of)
of_text (Arr' shape elements) some of utf8 = absurd (false≢true of)
of_text (value.Rng r) some of utf8 = absurd (false≢true of)
of_text (value.Opaque t) some of utf8 = absurd (false≢true of)

of_pad : (v : Value) → is_null v ≡ false → is_of (plain rep.Pad) v ≡ true → IsChars v → ReadsBack (plain rep.Pad) v
of_pad value.Null some of utf8 = absurd (true≢false some)
of_pad (value.Bool t) some of utf8 = absurd (false≢true of)
of_pad (value.Int n) some of utf8 = absurd (false≢true of)
of_pad (value.Num d) some of utf8 = absurd (false≢true of)
of_pad (value.Text t) some of utf8 = absurd (false≢true of)
of_pad (value.Pad t) some of utf8 = λ short clean. by_its_form (plain rep.Pad) t utf8 clean short
of_pad (value.Bytes b) some of utf8 = absurd (false≢true of)
of_pad (value.Day n) some of utf8 = absurd (false≢true of)
of_pad (Arr' shape elements) some of utf8 = absurd (false≢true of)
of_pad (value.Rng r) some of utf8 = absurd (false≢true of)
of_pad (value.Opaque t) some of utf8 = absurd (false≢true of)

of_bytes : (v : Value) → is_null v ≡ false → is_of (plain rep.Bytes) v ≡ true → IsChars v → ReadsBack (plain rep.Bytes) v
of_bytes value.Null some of utf8 = absurd (true≢false some)
of_bytes (value.Bool t) some of utf8 = absurd (false≢true of)
of_bytes (value.Int n) some of utf8 = absurd (false≢true of)
of_bytes (value.Num d) some of utf8 = absurd (false≢true of)
of_bytes (value.Text t) some of utf8 = absurd (false≢true of)
of_bytes (value.Pad t) some of utf8 = absurd (false≢true of)
of_bytes (value.Bytes b) some of utf8 = λ short clean. bytea b utf8 short
of_bytes (value.Day n) some of utf8 = absurd (false≢true of)
of_bytes (Arr' shape elements) some of utf8 = absurd (false≢true of)
of_bytes (value.Rng r) some of utf8 = absurd (false≢true of)
of_bytes (value.Opaque t) some of utf8 = absurd (false≢true of)

of_opaque : (v : Value) → is_null v ≡ false → is_of (plain rep.Opaque) v ≡ true → IsChars v → ReadsBack (plain rep.Opaque) v
of_opaque value.Null some of utf8 = absurd (true≢false some)
of_opaque (value.Bool t) some of utf8 = absurd (false≢true of)
of_opaque (value.Int n) some of utf8 = absurd (false≢true of)
of_opaque (value.Num d) some of utf8 = absurd (false≢true of)
of_opaque (value.Text t) some of utf8 = absurd (false≢true of)
of_opaque (value.Pad t) some of utf8 = absurd (false≢true of)
of_opaque (value.Bytes b) some of utf8 = absurd (false≢true of)
of_opaque (value.Day n) some of utf8 = absurd (false≢true of)
of_opaque (Arr' shape elements) some of utf8 = absurd (false≢true of)
of_opaque (value.Rng r) some of utf8 = absurd (false≢true of)
of_opaque (value.Opaque t) some of utf8 = λ short clean. by_its_form (plain rep.Opaque) t utf8 clean short

reads_back : (r : Rep) (v : Value) → is_built r ≡ true → is_null v ≡ false → is_of (plain r) v ≡ true → IsChars v → ReadsBack (plain r) v
reads_back rep.Bool v known some of utf8 = of_bool v some of utf8
reads_back rep.Int2 v known some of utf8 = of_int2 v some of utf8
reads_back rep.Int4 v known some of utf8 = of_int4 v some of utf8
reads_back rep.Int8 v known some of utf8 = of_int8 v some of utf8
reads_back rep.Text v known some of utf8 = of_text v some of utf8
reads_back rep.Pad v known some of utf8 = of_pad v some of utf8
reads_back rep.Opaque v known some of utf8 = of_opaque v some of utf8
reads_back rep.Num v known some of utf8 = of_num v some of utf8
reads_back rep.Bytes v known some of utf8 = of_bytes v some of utf8
reads_back rep.Day v known some of utf8 = of_day v some of utf8
reads_back rep.Arr v known some of utf8 = absurd (false≢true known)
reads_back rep.Int4Range v known some of utf8 = absurd (false≢true known)
reads_back rep.Int8Range v known some of utf8 = absurd (false≢true known)
reads_back rep.DateRange v known some of utf8 = absurd (false≢true known)

-- ---- of a type of the catalogue

pub of_type : (c : Contents) (t : TypeNo) (v : Value) → is_null v ≡ false → is_of (shape_of c t) v ≡ true → IsChars v → ReadsBack (shape_of c t) v
of_type c t v = reads_back (rep_of c t) v (kind_built (kind_of c (base c t)) (name_of c (base c t)))
