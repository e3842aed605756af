use Rattle.std.proofs.Common.{refl}
use Rattle.xp_bodies.specs.Table.{texts}
use Rattle.xp_bodies.proofs.table.texts.Goals as goal

-- the definition computes to the table
pub returns : goal.returns
unfolding texts
returns c = refl
