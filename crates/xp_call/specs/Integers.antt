-- What the words of integers give in a type, over whole numbers (manual 9.3).
use Rattle.std.specs.Prelude.{ℤ, Result, Ok}
use Rattle.xp_base.specs.declared.codes.EvalError.{EvalError}
use Rattle.xp_int.specs.Integers as integers
use Rattle.xp_call.specs.declared.operations.IntType.{IntType}
use Rattle.xp_call.specs.declared.operations.IntType.TheVariants.{Int2, Int4, Int8}
use Rattle.xp_call.specs.declared.operations.Binary.{Binary}
use Rattle.xp_call.specs.declared.operations.Binary.TheVariants as binary
use Rattle.xp_call.specs.declared.operations.Unary.{Unary}
use Rattle.xp_call.specs.declared.operations.Unary.TheVariants as unary
use Rattle.xp_call.specs.declared.operations.Shift.{Shift}
use Rattle.xp_call.specs.declared.operations.Shift.TheVariants as shift

-- the type that has all numbers of both
abbrev pub wider : IntType → IntType → IntType
wider Int2 b = b
wider Int4 Int8 = Int8
wider Int4 b = Int4
wider Int8 b = Int8

unfoldable pub binary_of : Binary → integers.IntType → ℤ → ℤ → Result ℤ EvalError
binary_of binary.Add t x y = integers.sum t x y
binary_of binary.Subtract t x y = integers.difference t x y
binary_of binary.Multiply t x y = integers.product t x y
binary_of binary.Divide t x y = integers.quotient t x y
binary_of binary.Modulo t x y = integers.remainder x y
binary_of binary.And t x y = Ok (integers.bits_and t x y)
binary_of binary.Or t x y = Ok (integers.bits_or t x y)
binary_of binary.Xor t x y = Ok (integers.bits_xor t x y)

abbrev pub unary_of : Unary → integers.IntType → ℤ → Result ℤ EvalError
unary_of unary.Not t x = Ok (integers.bits_not t x)
unary_of unary.Negate t x = integers.negation t x
unary_of unary.Plus t x = Ok x
unary_of unary.Absolute t x = integers.absolute t x

abbrev pub shift_of : Shift → integers.IntType → ℤ → ℤ → ℤ
shift_of shift.Left t x count = integers.shifted_left t x count
shift_of shift.Right t x count = integers.shifted_right t x count
