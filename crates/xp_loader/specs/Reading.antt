-- What the fields of a record say, against the rows of the records before it (this project's own; manual CREATE CAST, CREATE FUNCTION, 38.7).
use Rattle.std.specs.Prelude.{ℕ, List, [], ◌∷◌, Bool, ◌==◌, cond, length, nat_lt, slice_index, Option, Some, None, option_map, option_and_then, codes}
use Rattle.std.specs.Option.{option_map_or}
use Rattle.std.specs.List.{list_all, slice_split}
use Rattle.std.specs.Str.{bytes_eq}
use Rattle.xp_base.specs.declared.numbers.BodyNo.{BodyNo}
use Rattle.xp_base.specs.declared.numbers.RowNo.{RowNo}
use Rattle.xp_base.specs.declared.numbers.TypeNo.{TypeNo}
use Rattle.xp_catalog.specs.declared.rows.CastMethod.{CastMethod}
use Rattle.xp_catalog.specs.declared.rows.CastMethod.TheVariants as method
use Rattle.xp_catalog.specs.declared.rows.Context.{Context}
use Rattle.xp_catalog.specs.declared.rows.Context.TheVariants.{Implicit, Assignment, Explicit}
use Rattle.xp_catalog.specs.declared.rows.Volatility.{Volatility}
use Rattle.xp_catalog.specs.declared.rows.Volatility.TheVariants.{Immutable, Stable, Volatile}
use Rattle.xp_catalog.specs.declared.record.Record.{Record}
use Rattle.xp_catalog.specs.declared.record.Record.TheVariants as row
use Rattle.xp_catalog.specs.Contents.{Contents}
use Rattle.xp_catalog.specs.Lookups.{func_at, operands, row_number, type_named}
use Rattle.xp_bodies.specs.Table.{body_named}
use Rattle.xp_catalog.specs.declared.record.RecordKind.{RecordKind}
use Rattle.xp_catalog.specs.declared.record.RecordKind.TheVariants as kind
use Rattle.xp_loader.specs.Records.{field}

-- ---- words

-- field 1
abbrev pub kind_of : List ℕ → Option RecordKind
kind_of word =
    cond (bytes_eq word (codes "type")) (Some kind.Plain) (
    cond (bytes_eq word (codes "range")) (Some kind.Range) (
    cond (bytes_eq word (codes "domain")) (Some kind.Domain) (
    cond (bytes_eq word (codes "cast")) (Some kind.Cast) (
    cond (bytes_eq word (codes "function")) (Some kind.Function) (
    cond (bytes_eq word (codes "operator")) (Some kind.Operator) None)))))

abbrev pub is_set : List ℕ → Bool
is_set flag = bytes_eq flag (codes "t")

abbrev pub volatility_of : List ℕ → Volatility
volatility_of word = cond (bytes_eq word (codes "immutable")) Immutable (cond (bytes_eq word (codes "stable")) Stable Volatile)

abbrev pub context_of : List ℕ → Context
context_of word = cond (bytes_eq word (codes "implicit")) Implicit (cond (bytes_eq word (codes "assignment")) Assignment Explicit)

-- ---- what a name refers to

abbrev pub is_ascii : List ℕ → Bool
is_ascii = list_all (λ b. nat_lt b 128)

-- what isn't ASCII is no name of anything
abbrev pub named : {X : Type 0} → (List ℕ → Option X) → List ℕ → Option X
named find name = cond (is_ascii name) (find name) None

abbrev pub type_of : Contents → List ℕ → Option TypeNo
type_of c = named (type_named c)

abbrev pub with_both : {X Y Z : Type 0} → Option X → Option Y → (X → Y → Z) → Option Z
with_both x y make = option_and_then (λ a. option_map (make a) y) x

-- type names with one space between, or nothing
abbrev pub arg_names : List ℕ → List (List ℕ)
arg_names args = cond (length args == 0) [] (slice_split (λ b. b == 32) args)

-- all of them, where each is there
abbrev pub types_of : Contents → List (List ℕ) → Option (List TypeNo)
types_of c [] = Some []
types_of c (name ∷ names) = with_both (type_of c name) (types_of c names) (λ type types. type ∷ types)

-- a prefix operator has no left operand
abbrev pub left_of : Contents → List ℕ → Option (Option TypeNo)
left_of c name = cond (length name == 0) (Some None) (option_map Some (type_of c name))

abbrev pub body_of : List ℕ → Option BodyNo
body_of = named body_named

-- the function with exactly these arguments, or a number that is no row's
abbrev pub function_of : Contents → List ℕ → List TypeNo → RowNo
function_of c name args = option_map_or (λ number. number) (named (λ n. func_at c n args) name) (row_number (length c.funcs))

abbrev pub method_of : Contents → List ℕ → TypeNo → CastMethod
method_of c word from =
    cond (bytes_eq word (codes "binary")) method.Binary (
    cond (bytes_eq word (codes "none")) method.None (method.Function (function_of c word (from ∷ []))))

-- ---- the record, where its types are there

-- type, name, category, preferred
abbrev pub plain_record : ℕ → List (List ℕ) → Option Record
plain_record line fields = Some (row.Plain (field fields 1) (slice_index (field fields 2) 0) (is_set (field fields 3)) line)

-- range, name, subtype
abbrev pub range_record : Contents → ℕ → List (List ℕ) → Option Record
range_record c line fields = option_map (λ subtype. row.Range (field fields 1) subtype line) (type_of c (field fields 2))

-- domain, name, base, notnull, check
abbrev pub domain_record : Contents → ℕ → List (List ℕ) → Option Record
domain_record c line fields = option_map (λ base. row.Domain (field fields 1) base (is_set (field fields 3)) (field fields 4) line) (type_of c (field fields 2))

-- cast, from, to, context, method
abbrev pub cast_row : Contents → ℕ → List (List ℕ) → TypeNo → TypeNo → Record
cast_row c line fields from to = row.Cast (record {
  from = from;
  to = to;
  context = context_of (field fields 3);
  method = method_of c (field fields 4) from;
  line = line;
})

abbrev pub cast_record : Contents → ℕ → List (List ℕ) → Option Record
cast_record c line fields = with_both (type_of c (field fields 1)) (type_of c (field fields 2)) (cast_row c line fields)

-- function, name, args, variadic, result, volatility, strict, body
abbrev pub function_row : ℕ → List (List ℕ) → List TypeNo → TypeNo → Record
function_row line fields args result = row.Function (record {
  name = field fields 1;
  args = args;
  variadic = is_set (field fields 3);
  result = result;
  volatility = volatility_of (field fields 5);
  strict = is_set (field fields 6);
  body = body_of (field fields 7);
  line = line;
})

abbrev pub function_record : Contents → ℕ → List (List ℕ) → Option Record
function_record c line fields = with_both (types_of c (arg_names (field fields 2))) (type_of c (field fields 4)) (function_row line fields)

-- operator, name, left, right, function
abbrev pub operator_row : Contents → ℕ → List (List ℕ) → Option TypeNo → TypeNo → Record
operator_row c line fields left right = row.Operator (record {
  name = field fields 1;
  left = left;
  right = right;
  function = function_of c (field fields 4) (operands left right);
  line = line;
})

abbrev pub operator_record : Contents → ℕ → List (List ℕ) → Option Record
operator_record c line fields = with_both (left_of c (field fields 2)) (type_of c (field fields 3)) (operator_row c line fields)

abbrev pub record_as : RecordKind → Contents → ℕ → List (List ℕ) → Option Record
record_as kind.Plain c line fields = plain_record line fields
record_as kind.Range c line fields = range_record c line fields
record_as kind.Domain c line fields = domain_record c line fields
record_as kind.Cast c line fields = cast_record c line fields
record_as kind.Function c line fields = function_record c line fields
record_as kind.Operator c line fields = operator_record c line fields

abbrev pub record_of : Contents → ℕ → List (List ℕ) → Option Record
record_of c line fields = option_and_then (λ form. record_as form c line fields) (kind_of (field fields 0))
