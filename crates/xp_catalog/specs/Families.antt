-- The two families of polymorphic types (manual 38.2.5 with its table 38.1).
use Rattle.std.specs.Prelude.{Bool, true, false}
use Rattle.xp_catalog.specs.declared.rows.Family.{Family}
use Rattle.xp_catalog.specs.declared.rows.Family.TheVariants.{First, Second}
use Rattle.xp_catalog.specs.declared.rows.PseudoType.{PseudoType}
use Rattle.xp_catalog.specs.declared.rows.PseudoType.TheVariants as pseudo

-- those that are one type in a call, and those that are brought to one
abbrev pub is_of : Family → PseudoType → Bool
is_of First pseudo.AnyElement = true
is_of First pseudo.AnyArray = true
is_of First pseudo.AnyNonArray = true
is_of First pseudo.AnyRange = true
is_of Second pseudo.AnyCompatible = true
is_of Second pseudo.AnyCompatibleArray = true
is_of Second pseudo.AnyCompatibleNonArray = true
is_of Second pseudo.AnyCompatibleRange = true
is_of _ _ = false
