-- The null value, which every type has (manual 9.1, 9.2).
use Rattle.std.specs.Prelude.{Bool, true, false}
use Rattle.xp_value.specs.declared.value.Value.{Value}
use Rattle.xp_value.specs.declared.value.Value.TheVariants as value

abbrev pub is_null : Value → Bool
is_null value.Null = true
is_null _ = false
