use Rattle.std.proofs.Common.{ap}
use Rattle.xp_candidates.specs.Known.{bases}
use Rattle.xp_candidates.specs.Chosen.{narrowed, outcome}
use Rattle.xp_candidates.proofs.laws.none_decides.Goals as goal

pub returns : goal.returns
returns c = ap (λ some. outcome c.args.c.now c.args.inputs.now (narrowed c.args.c.now (bases c.args.c.now c.args.inputs.now) some)) c.requires
