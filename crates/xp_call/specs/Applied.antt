-- What an operation gives of the values of its arguments (manual 9.1 to 9.5, 9.7, 9.9).
use Rattle.std.specs.Prelude.{pos, List, not, Ok}
use Rattle.std.specs.Int.{from_bool}
use Rattle.std.specs.Ordering.{bool_cmp, int_cmp, int_eq}
use Rattle.xp_int.specs.Integers as integers
use Rattle.xp_value.specs.declared.value.Value.{Value}
use Rattle.xp_call.specs.declared.operations.IntType.TheVariants.{Int4, Int8}
use Rattle.xp_call.specs.declared.operations.Operation.{Operation}
use Rattle.xp_call.specs.declared.operations.Operation.TheVariants as operation
use Rattle.xp_call.specs.Arguments.{Outcome, bool_in, digits, holds, integer_in, number, of_one, of_two, truth, type_of}
use Rattle.xp_call.specs.Bytes.{of_bytes, of_made_bytes}
use Rattle.xp_call.specs.Dates.{of_dates}
use Rattle.xp_call.specs.Integers.{binary_of, shift_of, unary_of, wider}
use Rattle.xp_call.specs.MadeTexts.{of_made_texts}
use Rattle.xp_call.specs.Numerics.{of_numerics}
use Rattle.xp_call.specs.Texts.{of_texts}

-- integers of two types are taken in the wider one
abbrev pub applied : Operation → List Value → Outcome
applied (operation.Binary word a b) = of_two (integer_in a) (integer_in b) (λ x y. number (binary_of word (type_of (wider a b)) x y))
applied (operation.Unary word a) = of_one (integer_in a) (λ x. number (unary_of word (type_of a) x))
applied (operation.Shift word a) = of_two (integer_in a) (integer_in Int4) (λ x count. number (Ok (shift_of word (type_of a) x count)))
applied (operation.Compare word a b) = of_two (integer_in a) (integer_in b) (λ x y. truth (holds word (int_cmp x y)))
applied (operation.CompareBools word) = of_two bool_in bool_in (λ x y. truth (holds word (bool_cmp x y)))
applied (operation.Cast from to) = of_one (integer_in from) (λ x. number (integers.within (type_of to) x))
applied operation.BoolOfInt4 = of_one (integer_in Int4) (λ x. truth (not (int_eq x (pos 0))))
applied operation.Int4OfBool = of_one bool_in (λ b. number (Ok (pos (from_bool b))))
applied operation.HexOfInt4 = of_one (integer_in Int4) (λ x. digits (integers.hex integers.int4 x))
applied operation.HexOfInt8 = of_one (integer_in Int8) (λ x. digits (integers.hex integers.int8 x))
applied (operation.Numeric word) = of_numerics word
applied (operation.Text word) = of_texts word
applied (operation.MakeText word) = of_made_texts word
applied (operation.Bytes word) = of_bytes word
applied (operation.MakeBytes word) = of_made_bytes word
applied (operation.Date word) = of_dates word
