use Rattle.std.proofs.Common.{refl}
use Rattle.xp_bodies.specs.Table.{arithmetic}
use Rattle.xp_bodies.proofs.table.arithmetic.Goals as goal

-- the definition computes to the table
pub returns : goal.returns
unfolding arithmetic
returns c = refl
