use Rattle.std.proofs.Common.{refl}
use Rattle.xp_bodies.specs.Table.{edits}
use Rattle.xp_bodies.proofs.table.edits.Goals as goal

-- the definition computes to the table
pub returns : goal.returns
unfolding edits
returns c = refl
