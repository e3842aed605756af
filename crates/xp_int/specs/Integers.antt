-- Arithmetic of the integer types over whole numbers (manual 8.1.1, 9.3).
use Rattle.std.specs.Prelude.{ℕ, ◌-◌, ◌*◌, ◌%◌, ◌^◌, ℤ, pos, ◌+ℤ◌, ◌-ℤ◌, ◌*ℤ◌, neg_ℤ, unsigned_abs, int_div, int_rem, false, List, if◌then◌else◌, Result, Ok, Err, bit_and, bit_or, bit_xor}
use Rattle.std.specs.Int.{Width, w16, w32, w64, cast_signed, cast_unsigned, int_rem_euclid, int_shr}
use Rattle.std.specs.Fmt.{digits}
use Rattle.std.specs.Ordering.{int_eq}
use Rattle.xp_base.specs.declared.codes.EvalError.{EvalError}
use Rattle.xp_base.specs.declared.codes.EvalError.TheVariants.{OutOfRange, DivisionByZero}
use Rattle.xp_value.specs.Representation.{has_bits}

-- the integer types
pub data IntType : Type 0 where
  int2 : IntType
  int4 : IntType
  int8 : IntType

-- how many bits a number of the type has
abbrev pub bits : IntType → ℕ
bits int2 = 16
bits int4 = 32
bits int8 = 64

-- the same for the two's complement: `cast_unsigned` is a number's bits, read as a whole number from 0, and `cast_signed` the number that has these bits
abbrev pub width : IntType → Width
width int2 = w16
width int4 = w32
width int8 = w64

-- a number, where it is one of the type
abbrev pub within : IntType → ℤ → Result ℤ EvalError
within t z = if has_bits (bits t) z then Ok z else Err OutOfRange

abbrev pub sum : IntType → ℤ → ℤ → Result ℤ EvalError
sum t x y = within t (x +ℤ y)

abbrev pub difference : IntType → ℤ → ℤ → Result ℤ EvalError
difference t x y = within t (x -ℤ y)

abbrev pub product : IntType → ℤ → ℤ → Result ℤ EvalError
product t x y = within t (x *ℤ y)

-- toward zero
abbrev pub quotient : IntType → ℤ → ℤ → Result ℤ EvalError
quotient t x y = if int_eq y (pos 0) then Err DivisionByZero else within t (int_div x y)

-- with the dividend's sign; it is never out of range
abbrev pub remainder : ℤ → ℤ → Result ℤ EvalError
remainder x y = if int_eq y (pos 0) then Err DivisionByZero else Ok (int_rem x y)

abbrev pub negation : IntType → ℤ → Result ℤ EvalError
negation t x = within t (neg_ℤ x)

abbrev pub absolute : IntType → ℤ → Result ℤ EvalError
absolute t x = within t (pos (unsigned_abs x))

-- bit by bit, on two's complement
abbrev pub bits_and : IntType → ℤ → ℤ → ℤ
bits_and t x y = cast_signed (width t) (bit_and (cast_unsigned (width t) x) (cast_unsigned (width t) y))

abbrev pub bits_or : IntType → ℤ → ℤ → ℤ
bits_or t x y = cast_signed (width t) (bit_or (cast_unsigned (width t) x) (cast_unsigned (width t) y))

abbrev pub bits_xor : IntType → ℤ → ℤ → ℤ
bits_xor t x y = cast_signed (width t) (bit_xor (cast_unsigned (width t) x) (cast_unsigned (width t) y))

abbrev pub bits_not : IntType → ℤ → ℤ
bits_not t x = cast_signed (width t) (2 ^ bits t - 1 - cast_unsigned (width t) x)

-- the count of a shift modulo the width: -1 is the width less 1
abbrev pub shift : IntType → ℤ → ℕ
shift t count = unsigned_abs (int_rem_euclid count (pos (bits t)))

-- bits past the end are lost
abbrev pub shifted_left : IntType → ℤ → ℤ → ℤ
shifted_left t x count = cast_signed (width t) ((cast_unsigned (width t) x * 2 ^ shift t count) % 2 ^ bits t)

-- the sign is kept: the number is divided by a power of two and rounded down
abbrev pub shifted_right : IntType → ℤ → ℤ → ℤ
shifted_right t x count = int_shr x (shift t count)

-- two's complement in hexadecimal digits, lower case, without leading zeros
abbrev pub hex : IntType → ℤ → List ℕ
hex t x = digits 16 false (cast_unsigned (width t) x)
