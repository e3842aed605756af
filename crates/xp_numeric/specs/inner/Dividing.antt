-- The two ways to divide a size by a power of ten.
use Rattle.std.specs.Prelude.{ℕ, ◌/◌}
use Rattle.xp_numeric.specs.declared.places.Rounding.{Rounding}
use Rattle.xp_numeric.specs.declared.places.Rounding.TheVariants.{Nearest, TowardZero}
use Rattle.xp_numeric.specs.Quotients.{nearest}

abbrev pub division : Rounding → ℕ → ℕ → ℕ
division Nearest n d = nearest n d
division TowardZero n d = n / d
