-- Which body of the table does what: the name of each operation (manual 9.1 to 9.5, 9.7, 9.9).
use Rattle.std.specs.Prelude.{ℕ, List, [], ◌∷◌, ◌++◌, Option, map, codes, slice_get}
use Rattle.std.specs.List.{find, flat_map}
use Rattle.std.specs.Option.{option_and_then}
use Rattle.std.specs.Str.{bytes_eq}
use Rattle.xp_base.specs.declared.numbers.BodyNo.{BodyNo}
use Rattle.xp_bodies.specs.Row.{name_of}
use Rattle.xp_bodies.specs.Table.{bodies}
use Rattle.xp_call.specs.declared.operations.IntType.{IntType}
use Rattle.xp_call.specs.declared.operations.Binary.{Binary}
use Rattle.xp_call.specs.declared.operations.Binary.TheVariants as binary
use Rattle.xp_call.specs.declared.operations.Unary.{Unary}
use Rattle.xp_call.specs.declared.operations.Unary.TheVariants as unary
use Rattle.xp_call.specs.declared.operations.Shift.{Shift}
use Rattle.xp_call.specs.declared.operations.Shift.TheVariants as shift
use Rattle.xp_call.specs.declared.operations.Operation.{Operation}
use Rattle.xp_call.specs.declared.operations.Operation.TheVariants as operation
use Rattle.xp_call.specs.Bytes as byte_strings
use Rattle.xp_call.specs.Dates.{date_name, date_operations}
use Rattle.xp_call.specs.MadeTexts as made_texts
use Rattle.xp_call.specs.Numerics.{numeric_name, numeric_operations}
use Rattle.xp_call.specs.Texts.{text_name, text_operations}
use Rattle.xp_call.specs.Words.{comparison_word, comparisons, int_types, type_name}

-- ---- names

abbrev pub binary_word : Binary → List ℕ
binary_word binary.Add = codes "add"
binary_word binary.Subtract = codes "sub"
binary_word binary.Multiply = codes "mul"
binary_word binary.Divide = codes "div"
binary_word binary.Modulo = codes "mod"
binary_word binary.And = codes "and"
binary_word binary.Or = codes "or"
binary_word binary.Xor = codes "xor"

abbrev pub unary_word : Unary → List ℕ
unary_word unary.Not = codes "not"
unary_word unary.Negate = codes "neg"
unary_word unary.Plus = codes "plus"
unary_word unary.Absolute = codes "abs"

abbrev pub shift_word : Shift → List ℕ
shift_word shift.Left = codes "shl"
shift_word shift.Right = codes "shr"

-- the name of the body that does it: its word and the types of its arguments
abbrev pub operation_name : Operation → List ℕ
operation_name (operation.Binary word a b) = name_of (binary_word word) (type_name a ∷ type_name b ∷ [])
operation_name (operation.Unary word a) = name_of (unary_word word) (type_name a ∷ [])
operation_name (operation.Shift word a) = name_of (shift_word word) (type_name a ∷ codes "int4" ∷ [])
operation_name (operation.Compare word a b) = name_of (comparison_word word) (type_name a ∷ type_name b ∷ [])
operation_name (operation.CompareBools word) = name_of (comparison_word word) (codes "bool" ∷ codes "bool" ∷ [])
operation_name (operation.Cast from to) = name_of (type_name to) (type_name from ∷ [])
operation_name operation.BoolOfInt4 = codes "bool_int4"
operation_name operation.Int4OfBool = codes "int4_bool"
operation_name operation.HexOfInt4 = codes "to_hex_int4"
operation_name operation.HexOfInt8 = codes "to_hex_int8"
operation_name (operation.Numeric word) = numeric_name word
operation_name (operation.Text word) = text_name word
operation_name (operation.MakeText word) = made_texts.making_name word
operation_name (operation.Bytes word) = byte_strings.bytes_name word
operation_name (operation.MakeBytes word) = byte_strings.making_name word
operation_name (operation.Date word) = date_name word

-- ---- all operations

abbrev pub over_one : (IntType → Operation) → List Operation
over_one f = map f int_types

abbrev pub over_two : (IntType → IntType → Operation) → List Operation
over_two f = flat_map (λ a. map (f a) int_types) int_types

abbrev pub binaries : List Binary
binaries = binary.Add ∷ binary.Subtract ∷ binary.Multiply ∷ binary.Divide ∷ binary.Modulo ∷ binary.And ∷ binary.Or ∷ binary.Xor ∷ []

abbrev pub unaries : List Unary
unaries = unary.Not ∷ unary.Negate ∷ unary.Plus ∷ unary.Absolute ∷ []

-- over every types, some of which no body takes
unfoldable pub operations : List Operation
operations =
    flat_map (λ word. over_two (operation.Binary word)) binaries
    ++ flat_map (λ word. over_one (operation.Unary word)) unaries
    ++ flat_map (λ word. over_one (operation.Shift word)) (shift.Left ∷ shift.Right ∷ [])
    ++ flat_map (λ word. over_two (operation.Compare word)) comparisons
    ++ map operation.CompareBools comparisons
    ++ over_two operation.Cast
    ++ operation.BoolOfInt4 ∷ operation.Int4OfBool ∷ operation.HexOfInt4 ∷ operation.HexOfInt8 ∷ []
    ++ map operation.Numeric numeric_operations
    ++ map operation.Text text_operations
    ++ map operation.MakeText made_texts.text_makings
    ++ map operation.Bytes byte_strings.bytes_operations
    ++ map operation.MakeBytes byte_strings.bytes_makings
    ++ map operation.Date date_operations

-- the operation whose body has that name
unfoldable pub operation_named : List ℕ → Option Operation
operation_named name = find (λ o. bytes_eq (operation_name o) name) operations

-- what the body of that number does, if it is one of these
unfoldable pub operation_at : BodyNo → Option Operation
operation_at body = option_and_then (λ row. operation_named row.name) (slice_get bodies body.0)
