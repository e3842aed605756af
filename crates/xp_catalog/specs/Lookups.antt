-- Look-ups: the first row with a name, and with the types where it takes some.
use Rattle.std.specs.Prelude.{ℕ, List, [], ◌∷◌, Bool, ◌==◌, ◌&&◌, cond, Option, Some, None, option_map, codes}
use Rattle.std.specs.List.{position}
use Rattle.std.specs.Cmp.Lexicographic.{pointwise}
use Rattle.std.specs.Str.{bytes_eq}
use Rattle.xp_base.specs.declared.numbers.TypeNo.{TypeNo}
use Rattle.xp_base.specs.declared.numbers.RowNo.{RowNo}
use Rattle.xp_catalog.specs.declared.rows.TypeRow.{TypeRow}
use Rattle.xp_catalog.specs.declared.rows.CastRow.{CastRow}
use Rattle.xp_catalog.specs.declared.rows.FuncRow.{FuncRow}
use Rattle.xp_catalog.specs.declared.rows.OperRow.{OperRow}
use Rattle.xp_catalog.specs.Contents.{Contents}

abbrev pub type_number : ℕ → TypeNo
type_number place = record { 0 = place }

abbrev pub row_number : ℕ → RowNo
row_number place = record { 0 = place }

-- the same types in the same order
abbrev pub same_types : List TypeNo → List TypeNo → Bool
same_types = pointwise (λ a b. a.0 == b.0)

-- a prefix operator has one operand
abbrev pub operands : Option TypeNo → TypeNo → List TypeNo
operands None right = right ∷ []
operands (Some left) right = left ∷ right ∷ []

abbrev pub has_type_name : List ℕ → TypeRow → Bool
has_type_name name row = bytes_eq row.name name

abbrev pub has_arguments : List ℕ → List TypeNo → FuncRow → Bool
has_arguments name args row = bytes_eq row.name name && same_types row.args args

abbrev pub has_operands : List ℕ → List TypeNo → OperRow → Bool
has_operands name args row = bytes_eq row.name name && same_types (operands row.left row.right) args

-- the type of that name; `unknown` can't be named
abbrev pub type_named : Contents → List ℕ → Option TypeNo
type_named c name = cond (bytes_eq name (codes "unknown")) None (option_map type_number (position (has_type_name name) c.types))

-- the function of that name with exactly these arguments
abbrev pub func_at : Contents → List ℕ → List TypeNo → Option RowNo
func_at c name args = option_map row_number (position (has_arguments name args) c.funcs)

abbrev pub is_between : TypeNo → TypeNo → CastRow → Bool
is_between from to row = row.from.0 == from.0 && row.to.0 == to.0

-- the cast from one type to the other
abbrev pub cast_between : Contents → TypeNo → TypeNo → Option RowNo
cast_between c from to = option_map row_number (position (is_between from to) c.casts)

-- the operator of that name with exactly these operands
abbrev pub oper_at : Contents → List ℕ → List TypeNo → Option RowNo
oper_at c name args = option_map row_number (position (has_operands name args) c.opers)
