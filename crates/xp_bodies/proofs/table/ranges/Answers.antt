use Rattle.std.proofs.Common.{refl}
use Rattle.xp_bodies.specs.Table.{ranges}
use Rattle.xp_bodies.proofs.table.ranges.Goals as goal

-- the definition computes to the table
pub returns : goal.returns
unfolding ranges
returns c = refl
