-- Which type a name stands for: the standard's other names for types (manual 8, table 8.1; 8.21).
use Rattle.std.specs.Prelude.{ℕ, List, Bool, ◌&&◌, cond, codes, Option, Some, None, is_none, option_and_then}
use Rattle.std.specs.Str.{bytes_eq}
use Rattle.xp_base.specs.declared.numbers.TypeNo.{TypeNo}
use Rattle.xp_catalog.specs.Contents.{Contents}
use Rattle.xp_catalog.specs.Lookups.{type_named}
use Rattle.xp_grammar.specs.declared.types.Moment.TheVariants.{Timestamp, Time}
use Rattle.xp_grammar.specs.declared.types.TypeName.{TypeName}
use Rattle.xp_grammar.specs.declared.types.TypeName.TheVariants.{Plain, Quoted, DoublePrecision, CharacterVarying, WithTimeZone, WithoutTimeZone}
use Rattle.xp_types.specs.Readers.{array_of, is_known, pseudo_type}

-- the type's own name: an unquoted name of one word may be another name for it
abbrev pub own_name : List ℕ → List ℕ
own_name name =
    cond (bytes_eq name (codes "int")) (codes "int4") (
    cond (bytes_eq name (codes "integer")) (codes "int4") (
    cond (bytes_eq name (codes "smallint")) (codes "int2") (
    cond (bytes_eq name (codes "bigint")) (codes "int8") (
    cond (bytes_eq name (codes "decimal")) (codes "numeric") (
    cond (bytes_eq name (codes "real")) (codes "float4") (
    cond (bytes_eq name (codes "boolean")) (codes "bool") (
    cond (bytes_eq name (codes "char")) (codes "bpchar") (
    cond (bytes_eq name (codes "character")) (codes "bpchar") name))))))))

-- a quoted name stands as it is
abbrev pub name_of : TypeName → List ℕ
name_of (Plain name) = own_name name
name_of (Quoted name) = name
name_of DoublePrecision = codes "float8"
name_of CharacterVarying = codes "varchar"
name_of (WithTimeZone Timestamp) = codes "timestamptz"
name_of (WithTimeZone Time) = codes "timetz"
name_of (WithoutTimeZone Timestamp) = codes "timestamp"
name_of (WithoutTimeZone Time) = codes "time"

-- a type that a value may have: neither `unknown` nor a pseudo-type
abbrev pub is_value_type : Contents → TypeNo → Bool
is_value_type c type = is_known type && is_none (pseudo_type c type)

-- the type of a value that has that name of its own
abbrev pub type_called : Contents → List ℕ → Option TypeNo
type_called c name = option_and_then (λ type. cond (is_value_type c type) (Some type) None) (type_named c name)

-- its array type
abbrev pub array_called : Contents → List ℕ → Option TypeNo
array_called c name = option_and_then (array_of c) (type_called c name)
