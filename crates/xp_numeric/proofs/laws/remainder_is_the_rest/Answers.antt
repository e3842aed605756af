use Rattle.std.proofs.lemmas.Int.{quot-rem}
use Rattle.xp_numeric.specs.Arithmetic.{common}
use Rattle.xp_numeric.specs.Numbers.{at}
use Rattle.xp_numeric.proofs.laws.remainder_is_the_rest.Goals as goal

pub returns : goal.returns
returns c x y = quot-rem (at (common x y) x) (at (common x y) y)
