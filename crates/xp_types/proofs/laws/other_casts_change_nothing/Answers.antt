use Rattle.xp_types.proofs.MoreCasts.{by_other_path}
use Rattle.xp_types.proofs.laws.other_casts_change_nothing.Goals as goal

pub returns : goal.returns
returns c = by_other_path c.args.c.now c.args.cast c.args.context c.args.s c.args.t c.requires
