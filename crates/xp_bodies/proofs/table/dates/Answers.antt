use Rattle.std.proofs.Common.{refl}
use Rattle.xp_bodies.specs.Table.{dates}
use Rattle.xp_bodies.proofs.table.dates.Goals as goal

-- the definition computes to the table
pub returns : goal.returns
unfolding dates
returns c = refl
