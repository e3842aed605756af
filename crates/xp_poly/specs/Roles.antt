-- The pseudo-types by what they stand for in a call (manual 38.2.5 with its table 38.1, 8.21).
use Rattle.std.specs.Prelude.{Bool, true, false, Option, Some, None}
use Rattle.xp_base.specs.declared.numbers.TypeNo.{TypeNo}
use Rattle.xp_catalog.specs.declared.rows.PseudoType.{PseudoType}
use Rattle.xp_catalog.specs.declared.rows.PseudoType.TheVariants as pseudo
use Rattle.xp_catalog.specs.Contents.{Contents}
use Rattle.xp_types.specs.Readers.{pseudo_type}
use Rattle.xp_catalog.specs.declared.rows.Family.{Family}
use Rattle.xp_catalog.specs.declared.rows.Family.TheVariants.{First, Second}
use Rattle.xp_poly.specs.declared.roles.Form.TheVariants.{Element, NonArray, Array, Range}
use Rattle.xp_poly.specs.declared.roles.Role.{Role}
use Rattle.xp_poly.specs.declared.roles.Role.TheVariants.{Plain, Any, Member}

-- the members of the first family are of one element type, those of the second are brought to one type
abbrev pub role_of : PseudoType → Role
role_of pseudo.Any = Any
role_of pseudo.AnyElement = Member First Element
role_of pseudo.AnyNonArray = Member First NonArray
role_of pseudo.AnyArray = Member First Array
role_of pseudo.AnyRange = Member First Range
role_of pseudo.AnyCompatible = Member Second Element
role_of pseudo.AnyCompatibleNonArray = Member Second NonArray
role_of pseudo.AnyCompatibleArray = Member Second Array
role_of pseudo.AnyCompatibleRange = Member Second Range

abbrev pub role_by : Option PseudoType → Role
role_by (Some of) = role_of of
role_by None = Plain

-- every type that is no pseudo-type stands for itself
abbrev pub role : Contents → TypeNo → Role
role c declared = role_by (pseudo_type c declared)

abbrev pub is_family : Family → Family → Bool
is_family First First = true
is_family Second Second = true
is_family _ _ = false

abbrev pub is_of : Family → Role → Bool
is_of family (Member of form) = is_family family of
is_of family _ = false
