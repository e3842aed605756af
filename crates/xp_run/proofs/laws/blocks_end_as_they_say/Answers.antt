use Rattle.xp_run.proofs.LastLines.{ends_as_it_says}
use Rattle.xp_run.proofs.laws.blocks_end_as_they_say.Goals as goal

pub returns : goal.returns
returns c = ends_as_it_says
