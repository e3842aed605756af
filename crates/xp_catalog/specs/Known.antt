-- Rows whose numbers are those of rows, and how many rows there may be.
use Rattle.std.specs.Prelude.{◌+◌, ◌*◌, ◌<◌, ◌≤◌, length, IfSome}
use Rattle.std.specs.List.{All}
use Rattle.xp_base.specs.declared.limits.TheConstants.{RECORD_LIMIT}
use Rattle.xp_catalog.specs.declared.rows.TypeKind.{TypeKind}
use Rattle.xp_catalog.specs.declared.rows.TypeKind.TheVariants as kind
use Rattle.xp_catalog.specs.declared.rows.CastMethod.{CastMethod}
use Rattle.xp_catalog.specs.declared.rows.CastMethod.TheVariants as method
use Rattle.xp_catalog.specs.declared.rows.CastRow.{CastRow}
use Rattle.xp_catalog.specs.declared.rows.FuncRow.{FuncRow}
use Rattle.xp_catalog.specs.declared.rows.OperRow.{OperRow}
use Rattle.xp_catalog.specs.declared.rows.DomainRow.{DomainRow}
use Rattle.xp_catalog.specs.declared.rows.RangeRow.{RangeRow}
use Rattle.xp_catalog.specs.Contents.{Contents}

-- an array's element, a range's row and a domain's row are there
abbrev pub IsKnownKind : Contents → TypeKind → Type 0
IsKnownKind c kind.Plain = Unit {0}
IsKnownKind c (kind.Pseudo pseudo) = Unit {0}
IsKnownKind c (kind.Array element) = element.0 < length c.types
IsKnownKind c (kind.Range number) = number.0 < length c.ranges
IsKnownKind c (kind.Domain number) = number.0 < length c.domains

abbrev pub IsKnownMethod : Contents → CastMethod → Type 0
IsKnownMethod c method.Binary = Unit {0}
IsKnownMethod c method.None = Unit {0}
IsKnownMethod c (method.Function number) = number.0 < length c.funcs

pub record IsKnownCast (c : Contents) (cast : CastRow) : Type 0 where
  pub from : cast.from.0 < length c.types
  pub to : cast.to.0 < length c.types
  pub method : IsKnownMethod c cast.method

pub record IsKnownFunc (c : Contents) (func : FuncRow) : Type 0 where
  pub args : All (λ type. type.0 < length c.types) func.args
  pub result : func.result.0 < length c.types

pub record IsKnownOper (c : Contents) (oper : OperRow) : Type 0 where
  pub left : IfSome oper.left (λ type. type.0 < length c.types)
  pub right : oper.right.0 < length c.types
  pub function : oper.function.0 < length c.funcs

pub record IsKnownDomain (c : Contents) (domain : DomainRow) : Type 0 where
  pub ty : domain.ty.0 < length c.types
  pub base : domain.base.0 < length c.types

pub record IsKnownRange (c : Contents) (range : RangeRow) : Type 0 where
  pub ty : range.ty.0 < length c.types
  pub subtype : range.subtype.0 < length c.types

-- no more rows than the most records give: each two types at most, and `unknown`
pub record HasFewRows (c : Contents) : Type 0 where
  pub types : length c.types ≤ 2 * RECORD_LIMIT + 1
  pub casts : length c.casts ≤ RECORD_LIMIT
  pub funcs : length c.funcs ≤ RECORD_LIMIT
  pub opers : length c.opers ≤ RECORD_LIMIT
  pub domains : length c.domains ≤ RECORD_LIMIT
  pub ranges : length c.ranges ≤ RECORD_LIMIT

-- what holds of every catalogue's numbers
pub record IsKnown (c : Contents) : Type 0 where
  pub few : HasFewRows c
  pub types : All (λ type. IsKnownKind c type.kind) c.types
  pub casts : All (IsKnownCast c) c.casts
  pub funcs : All (IsKnownFunc c) c.funcs
  pub opers : All (IsKnownOper c) c.opers
  pub domains : All (IsKnownDomain c) c.domains
  pub ranges : All (IsKnownRange c) c.ranges
