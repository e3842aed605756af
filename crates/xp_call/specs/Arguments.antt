-- The values that bodies take and give.
use Rattle.std.specs.Prelude.{ℕ, ℤ, pos, List, [], ◌∷◌, Bool, if◌then◌else◌, Option, Some, None, Result, Ok, Err}
use Rattle.std.specs.declared.cmp.Ordering.{Ordering}
use Rattle.std.specs.Option.{option_map_or}
use Rattle.std.specs.Ordering.{is_eq, is_ge, is_gt, is_le, is_lt, is_ne}
use Rattle.xp_base.specs.declared.codes.EvalError.{EvalError}
use Rattle.xp_base.specs.declared.codes.EvalError.TheVariants.{Limit}
use Rattle.xp_base.specs.declared.decimal.Dec.{Dec}
use Rattle.xp_characters.specs.declared.fault.TextFault.{TextFault}
use Rattle.xp_characters.specs.declared.fault.TextFault.TheVariants as text_fault
use Rattle.xp_int.specs.Integers as integers
use Rattle.xp_value.specs.Representation.{has_bits, is_date}
use Rattle.xp_value.specs.declared.value.Value.{Value}
use Rattle.xp_value.specs.declared.value.Value.TheVariants as value
use Rattle.xp_call.specs.declared.operations.IntType.{IntType}
use Rattle.xp_call.specs.declared.operations.IntType.TheVariants.{Int2, Int4, Int8}
use Rattle.xp_call.specs.declared.operations.Comparison.{Comparison}
use Rattle.xp_call.specs.declared.operations.Comparison.TheVariants as comparison

abbrev pub type_of : IntType → integers.IntType
type_of Int2 = integers.int2
type_of Int4 = integers.int4
type_of Int8 = integers.int8

abbrev pub Outcome : Type 0
Outcome = Result Value EvalError

-- ---- what an argument is

-- the number, where the value is one of the type
abbrev pub integer_in : IntType → Value → Option ℤ
integer_in t (value.Int n) = if has_bits (integers.bits (type_of t)) n then Some n else None
integer_in t v = None

abbrev pub bool_in : Value → Option Bool
bool_in (value.Bool b) = Some b
bool_in v = None

abbrev pub numeric_in : Value → Option Dec
numeric_in (value.Num x) = Some x
numeric_in v = None

-- the day, where the value is one of the years
abbrev pub day_in : Value → Option ℤ
day_in (value.Day day) = if is_date day then Some day else None
day_in v = None

abbrev pub text_in : Value → Option (List ℕ)
text_in (value.Text t) = Some t
text_in v = None

-- a padded text, with its padding
abbrev pub pad_in : Value → Option (List ℕ)
pad_in (value.Pad t) = Some t
pad_in v = None

abbrev pub bytes_in : Value → Option (List ℕ)
bytes_in (value.Bytes b) = Some b
bytes_in v = None

-- of so many arguments; others than those of the types, which no typed tree has, count as past a limit
abbrev pub of_one : {A : Type 0} → (Value → Option A) → (A → Outcome) → List Value → Outcome
of_one first f (v ∷ []) = option_map_or f (first v) (Err Limit)
of_one first f values = Err Limit

abbrev pub of_two : {A B : Type 0} → (Value → Option A) → (Value → Option B) → (A → B → Outcome) → List Value → Outcome
of_two first second f (v ∷ w ∷ []) = option_map_or (λ x. option_map_or (f x) (second w) (Err Limit)) (first v) (Err Limit)
of_two first second f values = Err Limit

abbrev pub of_three : {A B C : Type 0} → (Value → Option A) → (Value → Option B) → (Value → Option C) → (A → B → C → Outcome) → List Value → Outcome
of_three first second third f (u ∷ v ∷ w ∷ []) = option_map_or (λ x. option_map_or (λ y. option_map_or (f x y) (third w) (Err Limit)) (second v) (Err Limit)) (first u) (Err Limit)
of_three first second third f values = Err Limit

-- ---- what a body gives

-- a number, a numeric or a day, or the error
abbrev pub number : Result ℤ EvalError → Outcome
number (Ok z) = Ok (value.Int z)
number (Err error) = Err error

abbrev pub numeric : Result Dec EvalError → Outcome
numeric (Ok x) = Ok (value.Num x)
numeric (Err error) = Err error

abbrev pub date : Result ℤ EvalError → Outcome
date (Ok day) = Ok (value.Day day)
date (Err error) = Err error

abbrev pub truth : Bool → Outcome
truth b = Ok (value.Bool b)

abbrev pub answer : Result Bool EvalError → Outcome
answer (Ok b) = truth b
answer (Err error) = Err error

-- a number of characters or bytes, as an int4
abbrev pub count : ℕ → Outcome
count n = number (integers.within integers.int4 (pos n))

-- no definition says want of memory; it counts as past a limit
abbrev pub raised : TextFault → EvalError
raised (text_fault.Raised error) = error
raised text_fault.Memory = Limit

abbrev pub text : Result (List ℕ) TextFault → Outcome
text (Ok t) = Ok (value.Text t)
text (Err f) = Err (raised f)

abbrev pub bytes : Result (List ℕ) TextFault → Outcome
bytes (Ok b) = Ok (value.Bytes b)
bytes (Err f) = Err (raised f)

abbrev pub digits : List ℕ → Outcome
digits t = Ok (value.Text t)

-- the order of two values is as the word says
abbrev pub holds : Comparison → Ordering → Bool
holds comparison.Equal order = is_eq order
holds comparison.NotEqual order = is_ne order
holds comparison.Less order = is_lt order
holds comparison.AtMost order = is_le order
holds comparison.Greater order = is_gt order
holds comparison.AtLeast order = is_ge order
