-- The rules that a record keeps against the rows of the records before it (this project's own; manual CREATE CAST, CREATE DOMAIN, CREATE TYPE, 38.2.5).
use Rattle.std.specs.Prelude.{ℕ, zero, suc, ◌-◌, List, [], ◌∷◌, Bool, true, false, ◌==◌, ◌&&◌, ◌||◌, not, cond, length, nat_lt, nat_le, codes, slice_get, is_some, slice_index, Option}
use Rattle.std.specs.Option.{option_map_or}
use Rattle.std.specs.List.{list_all, list_any}
use Rattle.std.specs.Str.{bytes_eq}
use Rattle.xp_base.specs.Operators.{is_operator_name}
use Rattle.xp_base.specs.declared.limits.TheConstants.{ARGUMENT_LIMIT}
use Rattle.xp_base.specs.declared.numbers.TypeNo.{TypeNo}
use Rattle.xp_base.specs.declared.numbers.RowNo.{RowNo}
use Rattle.xp_catalog.specs.declared.rows.Family.{Family}
use Rattle.xp_catalog.specs.declared.rows.Family.TheVariants.{First, Second}
use Rattle.xp_catalog.specs.declared.rows.PseudoType.TheVariants as pseudo
use Rattle.xp_catalog.specs.declared.rows.TypeKind.{TypeKind}
use Rattle.xp_catalog.specs.declared.rows.TypeKind.TheVariants as kind
use Rattle.xp_catalog.specs.declared.rows.CastMethod.{CastMethod}
use Rattle.xp_catalog.specs.declared.rows.CastMethod.TheVariants as method
use Rattle.xp_catalog.specs.declared.rows.CastRow.{CastRow}
use Rattle.xp_catalog.specs.declared.record.RecordKind.{RecordKind}
use Rattle.xp_catalog.specs.declared.record.RecordKind.TheVariants as form
use Rattle.xp_catalog.specs.declared.record.Record.{Record}
use Rattle.xp_catalog.specs.declared.record.Record.TheVariants as row
use Rattle.xp_catalog.specs.Contents.{Contents}
use Rattle.xp_catalog.specs.Families.{is_of}
use Rattle.xp_catalog.specs.Lookups.{cast_between, func_at, oper_at, operands, same_types, type_named}
use Rattle.xp_catalog.specs.Spelling.{is_among, is_letter_of, is_name, is_type_name, is_pseudo_name, plain_names, range_names, text_names}

-- ---- what is asked of a type

abbrev pub name_of : Contents → TypeNo → List ℕ
name_of c type = option_map_or (λ row. row.name) (slice_get c.types type.0) []

abbrev pub kind_of : Contents → TypeNo → TypeKind
kind_of c type = option_map_or (λ row. row.kind) (slice_get c.types type.0) kind.Plain

abbrev pub is_domain_kind : TypeKind → Bool
is_domain_kind (kind.Domain number) = true
is_domain_kind _ = false

abbrev pub is_pseudo_kind : TypeKind → Bool
is_pseudo_kind (kind.Pseudo pseudo) = true
is_pseudo_kind _ = false

abbrev pub is_any_kind : TypeKind → Bool
is_any_kind (kind.Pseudo pseudo.Any) = true
is_any_kind _ = false

-- a type that records may name: one of the rows before, but not `unknown`
abbrev pub is_known : Contents → TypeNo → Bool
is_known c type = nat_lt 0 type.0 && nat_lt type.0 (length c.types)

-- ---- types whose values have no representation here

-- the element of an array, the base of a domain, and so on to a type that is neither; numbers fall, so that many steps are enough
abbrev pub leaf_by : TypeKind → Contents → TypeNo → (TypeNo → TypeNo) → TypeNo
leaf_by (kind.Array element) c type onward = onward element
leaf_by (kind.Domain number) c type onward = onward (option_map_or (λ domain. domain.base) (slice_get c.domains number.0) type)
leaf_by _ c type onward = type

unfoldable pub leaf_in : ℕ → Contents → TypeNo → TypeNo
leaf_in zero c type = type
leaf_in (suc n) c type = leaf_by (kind_of c type) c type (leaf_in n c)

abbrev pub leaf : Contents → TypeNo → TypeNo
leaf c type = leaf_in (suc type.0) c type

abbrev pub is_opaque_leaf : TypeKind → List ℕ → Bool
is_opaque_leaf (kind.Range number) name = false
is_opaque_leaf _ name = not (is_among plain_names name)

-- values of the type are texts as they stand
abbrev pub is_opaque : Contents → TypeNo → Bool
is_opaque c type = is_opaque_leaf (kind_of c (leaf c type)) (name_of c (leaf c type))

-- ---- the rules, in the order in which they are looked at

-- what a record gives
abbrev pub form_of : Record → RecordKind
form_of (row.Plain name category preferred line) = form.Plain
form_of (row.Range name subtype line) = form.Range
form_of (row.Domain name base not_null check line) = form.Domain
form_of (row.Cast cast) = form.Cast
form_of (row.Function func) = form.Function
form_of (row.Operator oper) = form.Operator

-- under which name; a cast has none
abbrev pub own_name : Record → List ℕ
own_name (row.Plain name category preferred line) = name
own_name (row.Range name subtype line) = name
own_name (row.Domain name base not_null check line) = name
own_name (row.Cast cast) = []
own_name (row.Function func) = func.name
own_name (row.Operator oper) = oper.name

-- BadName
abbrev pub is_spelled : RecordKind → List ℕ → Bool
is_spelled form.Plain name = is_type_name name
is_spelled form.Range name = is_type_name name
is_spelled form.Domain name = is_type_name name
is_spelled form.Cast name = true
is_spelled form.Function name = is_name name
is_spelled form.Operator name = is_operator_name name

abbrev pub has_good_name : Record → Bool
has_good_name r = is_spelled (form_of r) (own_name r)

-- the letters of its category, which a plain type alone gives
abbrev pub own_category : Record → List ℕ
own_category (row.Plain name category preferred line) = category ∷ []
own_category _ = []

-- BadCategory: one letter, which the name may have
abbrev pub is_category : RecordKind → List ℕ → List ℕ → Bool
is_category form.Plain name letters = length letters == 1 && is_letter_of name (slice_index letters 0)
is_category _ name letters = true

abbrev pub has_good_category : Record → Bool
has_good_category r = is_category (form_of r) (own_name r) (own_category r)

-- UnknownType
abbrev pub has_known_types : Contents → Record → Bool
has_known_types c (row.Plain name category preferred line) = true
has_known_types c (row.Range name subtype line) = is_known c subtype
has_known_types c (row.Domain name base not_null check line) = is_known c base
has_known_types c (row.Cast cast) = is_known c cast.from && is_known c cast.to
has_known_types c (row.Function func) = list_all (is_known c) func.args && is_known c func.result
has_known_types c (row.Operator oper) = list_all (is_known c) (operands oper.left oper.right)

-- Duplicate
abbrev pub is_new : Contents → Record → Bool
is_new c (row.Plain name category preferred line) = not (is_some (type_named c name))
is_new c (row.Range name subtype line) = not (is_some (type_named c name))
is_new c (row.Domain name base not_null check line) = not (is_some (type_named c name))
is_new c (row.Cast cast) = not (is_some (cast_between c cast.from cast.to))
is_new c (row.Function func) = not (is_some (func_at c func.name func.args))
is_new c (row.Operator oper) = not (is_some (oper_at c oper.name (operands oper.left oper.right)))

-- a range over int4, int8 or date, and the three whose names say it over that one
abbrev pub is_range_over : List ℕ → List ℕ → Bool
is_range_over name subtype =
    cond (bytes_eq name (codes "int4range")) (bytes_eq subtype (codes "int4")) (
    cond (bytes_eq name (codes "int8range")) (bytes_eq subtype (codes "int8")) (
    cond (bytes_eq name (codes "daterange")) (bytes_eq subtype (codes "date"))
    (is_among (codes "int4" ∷ codes "int8" ∷ codes "date" ∷ []) subtype)))

-- BadBase
abbrev pub has_good_base : Contents → Record → Bool
has_good_base c (row.Plain name category preferred line) = not (is_among range_names name)
has_good_base c (row.Range name subtype line) = not (is_among plain_names name) && not (is_pseudo_name name) && is_range_over name (name_of c subtype)
has_good_base c (row.Domain name base not_null check line) =
    not (is_domain_kind (kind_of c base)) && not (is_pseudo_kind (kind_of c base))
    && not (is_among plain_names name) && not (is_pseudo_name name) && not (is_among range_names name)
has_good_base c _ = true

abbrev pub is_member : Family → TypeKind → Bool
is_member family (kind.Pseudo type) = is_of family type
is_member family _ = false

-- a result of the family has an argument of it
abbrev pub has_member : Contents → Family → List TypeNo → TypeNo → Bool
has_member c family args result = not (is_member family (kind_of c result)) || list_any (λ arg. is_member family (kind_of c arg)) args

-- the last of some, where there is one
abbrev pub last_of : List TypeNo → Option TypeNo
last_of types = slice_get types (length types - 1)

-- an array of some type or of each type, or each argument of a type of its own
abbrev pub is_variadic_kind : TypeKind → Bool
is_variadic_kind (kind.Array element) = true
is_variadic_kind (kind.Pseudo pseudo.Any) = true
is_variadic_kind (kind.Pseudo pseudo.AnyArray) = true
is_variadic_kind (kind.Pseudo pseudo.AnyCompatibleArray) = true
is_variadic_kind _ = false

abbrev pub may_be_variadic : Contents → TypeNo → Bool
may_be_variadic c type = is_variadic_kind (kind_of c type)

abbrev pub has_good_last : Contents → Bool → List TypeNo → Bool
has_good_last c false args = true
has_good_last c true args = option_map_or (may_be_variadic c) (last_of args) false

-- a binary cast over two types that are represented keeps to the texts
abbrev pub may_be_binary : Contents → CastRow → Bool
may_be_binary c cast =
    is_opaque c cast.from || is_opaque c cast.to || (is_among text_names (name_of c cast.from) && is_among text_names (name_of c cast.to))

abbrev pub has_good_method : Contents → CastRow → CastMethod → Bool
has_good_method c cast method.Binary = may_be_binary c cast
has_good_method c cast _ = true

abbrev pub is_castable : Contents → TypeNo → Bool
is_castable c type = not (is_domain_kind (kind_of c type)) && not (is_pseudo_kind (kind_of c type))

-- BadArgs
abbrev pub has_good_args : Contents → Record → Bool
has_good_args c (row.Function func) =
    nat_le (length func.args) ARGUMENT_LIMIT && has_good_last c func.variadic func.args && not (is_any_kind (kind_of c func.result))
    && has_member c First func.args func.result && has_member c Second func.args func.result
has_good_args c (row.Operator oper) = list_all (λ type. not (is_any_kind (kind_of c type))) (operands oper.left oper.right)
has_good_args c (row.Cast cast) =
    is_castable c cast.from && is_castable c cast.to && not (cast.from.0 == cast.to.0) && has_good_method c cast cast.method
has_good_args c _ = true

-- the function of that number takes exactly these
abbrev pub takes_exactly : Contents → RowNo → List TypeNo → Bool
takes_exactly c number args = option_map_or (λ func. same_types func.args args) (slice_get c.funcs number.0) false

abbrev pub casts_by : Contents → RowNo → TypeNo → TypeNo → Bool
casts_by c number from to = option_map_or (λ func. same_types func.args (from ∷ []) && func.result.0 == to.0) (slice_get c.funcs number.0) false

abbrev pub has_cast_function : Contents → CastRow → CastMethod → Bool
has_cast_function c cast (method.Function number) = casts_by c number cast.from cast.to
has_cast_function c cast _ = true

-- UnknownFunction
abbrev pub has_function : Contents → Record → Bool
has_function c (row.Cast cast) = has_cast_function c cast cast.method
has_function c (row.Operator oper) = takes_exactly c oper.function (operands oper.left oper.right)
has_function c _ = true

-- a record keeps the rules that don't look at bodies
abbrev pub keeps_rules : Contents → Record → Bool
keeps_rules c r =
    has_good_name r && has_good_category r && has_known_types c r && is_new c r && has_good_base c r && has_good_args c r && has_function c r
