-- The operations on bytea: their names, and what they give (manual 9.5, 9.7).
use Rattle.std.specs.Prelude.{ℕ, pos, List, [], ◌∷◌, ◌++◌, map, length, codes, Result, Ok, Err}
use Rattle.std.specs.Cmp.Lexicographic.{slice_cmp}
use Rattle.std.specs.Ordering.{nat_cmp}
use Rattle.xp_base.specs.declared.codes.EvalError.{EvalError}
use Rattle.xp_bodies.specs.Row.{name_of}
use Rattle.xp_bytea.specs.Single.{get_byte, set_byte}
use Rattle.xp_bytea.specs.Texts.{decode, encode}
use Rattle.xp_characters.specs.Faults.{limited}
use Rattle.xp_characters.specs.Places.{from, substr}
use Rattle.xp_characters.specs.Search.{strpos}
use Rattle.xp_like.specs.Patterns.{like, negated}
use Rattle.xp_value.specs.declared.value.Value.{Value}
use Rattle.xp_call.specs.Arguments.{Outcome, answer, bytes, bytes_in, count, holds, integer_in, number, of_three, of_two, of_one, text, text_in, truth}
use Rattle.xp_call.specs.Texts.{measure_word, measures}
use Rattle.xp_call.specs.Words.{comparison_word, comparisons}
use Rattle.xp_call.specs.declared.operations.IntType.TheVariants.{Int4}
use Rattle.xp_call.specs.declared.bytes.BytesOperation.{BytesOperation}
use Rattle.xp_call.specs.declared.bytes.BytesOperation.TheVariants as operation
use Rattle.xp_call.specs.declared.bytes.BytesMaking.{BytesMaking}
use Rattle.xp_call.specs.declared.bytes.BytesMaking.TheVariants as making

-- a byte as a number
abbrev pub byte : Result ℕ EvalError → Outcome
byte (Ok b) = number (Ok (pos b))
byte (Err error) = Err error

-- what bodies say of the values of their arguments; a length is always one in bytes
abbrev pub of_bytes : BytesOperation → List Value → Outcome
of_bytes (operation.Compare word) = of_two bytes_in bytes_in (λ a b. truth (holds word (slice_cmp nat_cmp a b)))
of_bytes operation.Like = of_two bytes_in bytes_in (λ a pattern. answer (like a pattern))
of_bytes operation.NotLike = of_two bytes_in bytes_in (λ a pattern. answer (negated (like a pattern)))
of_bytes (operation.Measure word) = of_one bytes_in (λ a. count (length a))
of_bytes operation.Place = of_two bytes_in bytes_in (λ a part. count (strpos a part))
of_bytes operation.Get = of_two bytes_in (integer_in Int4) (λ a n. byte (get_byte a n))

-- what bodies make of them
abbrev pub of_made_bytes : BytesMaking → List Value → Outcome
of_made_bytes making.Join = of_two bytes_in bytes_in (λ a b. bytes (limited (a ++ b)))
of_made_bytes making.From = of_two bytes_in (integer_in Int4) (λ a n. bytes (Ok (from a n)))
of_made_bytes making.Part = of_three bytes_in (integer_in Int4) (integer_in Int4) (λ a n m. bytes (substr a n m))
of_made_bytes making.Set = of_three bytes_in (integer_in Int4) (integer_in Int4) (λ a n value. bytes (set_byte a n value))
of_made_bytes making.Encode = of_two bytes_in text_in (λ a format. text (encode a format))
of_made_bytes making.Decode = of_two text_in text_in (λ a format. bytes (decode a format))

-- ---- names

abbrev pub bytes_name : BytesOperation → List ℕ
bytes_name (operation.Compare word) = name_of (comparison_word word) (codes "bytea" ∷ codes "bytea" ∷ [])
bytes_name operation.Like = codes "like_bytea_bytea"
bytes_name operation.NotLike = codes "nlike_bytea_bytea"
bytes_name (operation.Measure word) = name_of (measure_word word) (codes "bytea" ∷ [])
bytes_name operation.Place = codes "strpos_bytea_bytea"
bytes_name operation.Get = codes "get_byte_bytea_int4"

abbrev pub making_name : BytesMaking → List ℕ
making_name making.Join = codes "cat_bytea_bytea"
making_name making.From = codes "substr_bytea_int4"
making_name making.Part = codes "substr_bytea_int4_int4"
making_name making.Set = codes "set_byte_bytea_int4_int4"
making_name making.Encode = codes "encode_bytea_text"
making_name making.Decode = codes "decode_text_text"

abbrev pub bytes_operations : List BytesOperation
bytes_operations =
    map operation.Compare comparisons
    ++ map operation.Measure measures
    ++ operation.Like ∷ operation.NotLike ∷ operation.Place ∷ operation.Get ∷ []

abbrev pub bytes_makings : List BytesMaking
bytes_makings = making.Join ∷ making.From ∷ making.Part ∷ making.Set ∷ making.Encode ∷ making.Decode ∷ []
