-- Numbers that are those of types and of casts.
use Rattle.std.specs.Prelude.{◌<◌, List, length, All}
use Rattle.xp_base.specs.declared.numbers.TypeNo.{TypeNo}
use Rattle.xp_catalog.specs.Contents.{Contents}
use Rattle.xp_types.specs.declared.paths.PathKind.{PathKind}
use Rattle.xp_types.specs.declared.paths.PathKind.TheVariants.{Cast}

-- the number is a type of the catalogue
abbrev pub IsType : Contents → TypeNo → Type 0
IsType c type = type.0 < length c.types

-- each is
abbrev pub AreTypes : Contents → List TypeNo → Type 0
AreTypes c types = All (IsType c) types

-- the cast of the path is one of the catalogue's
abbrev pub HasCast : Contents → PathKind → Type 0
HasCast c (Cast row) = row.0 < length c.casts
HasCast c _ = Unit {0}
