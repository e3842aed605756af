-- The words of an overload that is chosen, as DESCRIBE shows it (this project's own).
use Rattle.std.specs.Prelude.{ℕ, List, [], ◌∷◌, ◌++◌, Bool, cond, codes, map, slice_get, Option, Some, None}
use Rattle.std.specs.List.{concat}
use Rattle.std.specs.Option.{option_map_or}
use Rattle.xp_base.specs.declared.numbers.TypeNo.{TypeNo}
use Rattle.xp_catalog.specs.Contents.{Contents}
use Rattle.xp_catalog.specs.declared.rows.FuncRow.{FuncRow}
use Rattle.xp_catalog.specs.declared.rows.OperRow.{OperRow}
use Rattle.xp_resolve.specs.declared.typed.Use.{Use}
use Rattle.xp_resolve.specs.declared.typed.Use.TheVariants.{Function, Operator, Cast}

abbrev pub type_name : Contents → TypeNo → List ℕ
type_name c ty = option_map_or (λ row. row.name) (slice_get c.types ty.0) []

-- the names of the types, with a comma before each but the first
abbrev pub type_names : Contents → List TypeNo → List ℕ
type_names c [] = []
type_names c (ty ∷ others) = type_name c ty ++ concat (map (λ other. codes "," ++ type_name c other) others)

-- the declared types of a function's arguments, with commas between and, in a variadic record, a word before the last
abbrev pub argument_names : Contents → Bool → List TypeNo → List ℕ
argument_names c variadic [] = []
argument_names c variadic (last ∷ []) = cond variadic (codes "variadic ") [] ++ type_name c last
argument_names c variadic (ty ∷ next ∷ others) = type_name c ty ++ codes "," ++ argument_names c variadic (next ∷ others)

-- a prefix operator has no left operand
abbrev pub operand_names : Contents → Option TypeNo → TypeNo → List ℕ
operand_names c None right = type_name c right
operand_names c (Some left) right = concat (type_name c left ∷ codes "," ∷ type_name c right ∷ [])

-- the kind, the name, the declared types of the arguments, and the type of the result in this call
abbrev pub call_words : List ℕ → List ℕ → List ℕ → List ℕ → List ℕ
call_words kind name arguments result = concat (kind ∷ name ∷ codes "(" ∷ arguments ∷ codes ") -> " ∷ result ∷ [])

abbrev pub function_words : Contents → TypeNo → FuncRow → List ℕ
function_words c result f = call_words (codes "function ") f.name (argument_names c f.variadic f.args) (type_name c result)

abbrev pub operator_words : Contents → TypeNo → OperRow → List ℕ
operator_words c result o = call_words (codes "operator ") o.name (operand_names c o.left o.right) (type_name c result)

abbrev pub use_words : Contents → Use → List ℕ
use_words c (Function row result) = option_map_or (function_words c result) (slice_get c.funcs row.0) []
use_words c (Operator row result) = option_map_or (operator_words c result) (slice_get c.opers row.0) []
use_words c (Cast target) = codes "cast " ++ type_name c target
