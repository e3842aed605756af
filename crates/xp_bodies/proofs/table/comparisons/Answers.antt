use Rattle.std.proofs.Common.{refl}
use Rattle.xp_bodies.specs.Table.{comparisons}
use Rattle.xp_bodies.proofs.table.comparisons.Goals as goal

-- the definition computes to the table
pub returns : goal.returns
unfolding comparisons
returns c = refl
