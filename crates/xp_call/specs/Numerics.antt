-- The operations on numerics: their names, and what they give (manual 9.3).
use Rattle.std.specs.Prelude.{ℕ, zero, suc, ℤ, Bool, ◌/◌, ◌%◌, ◌==◌, pos, List, [], ◌∷◌, ◌++◌, map, codes, cond, Result, Ok}
use Rattle.std.specs.Ordering.{int_cmp}
use Rattle.xp_base.specs.declared.codes.EvalError.{EvalError}
use Rattle.xp_base.specs.declared.decimal.Dec.{Dec}
use Rattle.xp_bodies.specs.Row.{name_of}
use Rattle.xp_int.specs.Integers as integers
use Rattle.xp_numeric.specs.Arithmetic.{absolute, difference, negation, product, quotient, remainder, sign, sum, whole_quotient}
use Rattle.xp_numeric.specs.Numbers.{made, signed}
use Rattle.xp_numeric.specs.Places.{as_int, ceiling, floor, rounded, truncated}
use Rattle.xp_value.specs.Order.{units}
use Rattle.xp_value.specs.declared.value.Value.{Value}
use Rattle.xp_call.specs.Arguments.{Outcome, holds, integer_in, number, numeric, numeric_in, of_one, of_two, truth, type_of}
use Rattle.xp_call.specs.Words.{comparison_word, comparisons, int_types, type_name}
use Rattle.xp_call.specs.declared.operations.IntType.TheVariants.{Int4}
use Rattle.xp_call.specs.declared.numerics.NumericBinary.{NumericBinary}
use Rattle.xp_call.specs.declared.numerics.NumericBinary.TheVariants as binary
use Rattle.xp_call.specs.declared.numerics.NumericUnary.{NumericUnary}
use Rattle.xp_call.specs.declared.numerics.NumericUnary.TheVariants as unary
use Rattle.xp_call.specs.declared.numerics.ToPlaces.{ToPlaces}
use Rattle.xp_call.specs.declared.numerics.ToPlaces.TheVariants as places
use Rattle.xp_call.specs.declared.numerics.NumericOperation.{NumericOperation}
use Rattle.xp_call.specs.declared.numerics.NumericOperation.TheVariants as operation

-- ---- what a word gives

unfoldable pub binary_of : NumericBinary → Dec → Dec → Result Dec EvalError
binary_of binary.Add x y = sum x y
binary_of binary.Subtract x y = difference x y
binary_of binary.Multiply x y = product x y
binary_of binary.Divide x y = quotient x y
binary_of binary.Modulo x y = remainder x y
binary_of binary.DivideWhole x y = whole_quotient x y

-- the number of so many units of decimal s, without the zeros at the end of its decimals
abbrev pub without_zeros : (negative : Bool) (s size : ℕ) → Result Dec EvalError
without_zeros negative zero size = made (signed negative size) 0
without_zeros negative (suc s) size = cond (size % 10 == 0) (without_zeros negative s (size / 10)) (made (signed negative size) (suc s))

unfoldable pub unary_of : NumericUnary → Dec → Result Dec EvalError
unary_of unary.Negate x = negation x
unary_of unary.Plus x = Ok x
unary_of unary.Absolute x = absolute x
unary_of unary.Sign x = sign x
unary_of unary.Ceiling x = ceiling x
unary_of unary.Floor x = floor x
unary_of unary.TrimScale x = without_zeros x.neg x.scale x.coef
unary_of unary.Round x = rounded (pos 0) x
unary_of unary.Truncate x = truncated (pos 0) x

abbrev pub at_places : ToPlaces → ℤ → Dec → Result Dec EvalError
at_places places.Round n x = rounded n x
at_places places.Truncate n x = truncated n x

-- what it gives of the values of its arguments
abbrev pub of_numerics : NumericOperation → List Value → Outcome
of_numerics (operation.Binary word) = of_two numeric_in numeric_in (λ x y. numeric (binary_of word x y))
of_numerics (operation.Compare word) = of_two numeric_in numeric_in (λ x y. truth (holds word (int_cmp (units x) (units y))))
of_numerics (operation.Unary word) = of_one numeric_in (λ x. numeric (unary_of word x))
of_numerics (operation.AtPlaces word) = of_two numeric_in (integer_in Int4) (λ x n. numeric (at_places word n x))
of_numerics operation.Scale = of_one numeric_in (λ x. number (Ok (pos x.scale)))
of_numerics (operation.OfInt from) = of_one (integer_in from) (λ n. numeric (made n 0))
of_numerics (operation.ToInt to) = of_one numeric_in (λ x. number (as_int (integers.bits (type_of to)) x))

-- ---- names

abbrev pub binary_word : NumericBinary → List ℕ
binary_word binary.Add = codes "add"
binary_word binary.Subtract = codes "sub"
binary_word binary.Multiply = codes "mul"
binary_word binary.Divide = codes "div"
binary_word binary.Modulo = codes "mod"
binary_word binary.DivideWhole = codes "intdiv"

abbrev pub unary_word : NumericUnary → List ℕ
unary_word unary.Negate = codes "neg"
unary_word unary.Plus = codes "plus"
unary_word unary.Absolute = codes "abs"
unary_word unary.Sign = codes "sign"
unary_word unary.Ceiling = codes "ceil"
unary_word unary.Floor = codes "floor"
unary_word unary.TrimScale = codes "trim_scale"
unary_word unary.Round = codes "round"
unary_word unary.Truncate = codes "trunc"

abbrev pub places_word : ToPlaces → List ℕ
places_word places.Round = codes "round"
places_word places.Truncate = codes "trunc"

-- the name of the body that does it: its word and the types of its arguments
abbrev pub numeric_name : NumericOperation → List ℕ
numeric_name (operation.Binary word) = name_of (binary_word word) (codes "numeric" ∷ codes "numeric" ∷ [])
numeric_name (operation.Compare word) = name_of (comparison_word word) (codes "numeric" ∷ codes "numeric" ∷ [])
numeric_name (operation.Unary word) = name_of (unary_word word) (codes "numeric" ∷ [])
numeric_name (operation.AtPlaces word) = name_of (places_word word) (codes "numeric" ∷ codes "int4" ∷ [])
numeric_name operation.Scale = codes "scale_numeric"
numeric_name (operation.OfInt from) = name_of (codes "numeric") (type_name from ∷ [])
numeric_name (operation.ToInt to) = name_of (type_name to) (codes "numeric" ∷ [])

abbrev pub binaries : List NumericBinary
binaries = binary.Add ∷ binary.Subtract ∷ binary.Multiply ∷ binary.Divide ∷ binary.Modulo ∷ binary.DivideWhole ∷ []

abbrev pub unaries : List NumericUnary
unaries = unary.Negate ∷ unary.Plus ∷ unary.Absolute ∷ unary.Sign ∷ unary.Ceiling ∷ unary.Floor ∷ unary.TrimScale ∷ unary.Round ∷ unary.Truncate ∷ []

abbrev pub numeric_operations : List NumericOperation
numeric_operations =
    map operation.Binary binaries
    ++ map operation.Compare comparisons
    ++ map operation.Unary unaries
    ++ map operation.AtPlaces (places.Round ∷ places.Truncate ∷ [])
    ++ map operation.OfInt int_types
    ++ map operation.ToInt int_types
    ++ operation.Scale ∷ []
