use Rattle.xp_catalog.proofs.OneRow.{HasOneRowEach-built}
use Rattle.xp_catalog.proofs.laws.look_ups_find_the_one_row.Goals as goal

pub returns : goal.returns
returns c = HasOneRowEach-built
