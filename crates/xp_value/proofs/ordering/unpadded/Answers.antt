use Rattle.xp_value.proofs.Padding.{unpadded_trimmed}
use Rattle.xp_value.proofs.ordering.unpadded.Goals as goal

pub returns : goal.returns
returns c = unpadded_trimmed c.args.text.now c.trim_end_matches.result.now c.trim_end_matches.ensures.matches
