use Rattle.std.proofs.Common.{refl}
use Rattle.xp_bodies.specs.Table.{numerics}
use Rattle.xp_bodies.proofs.table.numerics.Goals as goal

-- the definition computes to the table
pub returns : goal.returns
unfolding numerics
returns c = refl
