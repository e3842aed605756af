use Rattle.std.proofs.Common.{◌∙◌, ap}
use Rattle.xp_candidates.specs.Known.{bases}
use Rattle.xp_candidates.specs.Chosen.{narrowed, outcome}
use Rattle.xp_candidates.proofs.Places.{narrowed-one}
use Rattle.xp_candidates.proofs.laws.one_decides.Goals as goal

pub returns : goal.returns
returns c =
    let inputs = bases c.args.c.now c.args.inputs.now in
    ap (λ some. outcome c.args.c.now c.args.inputs.now (narrowed c.args.c.now inputs some)) c.requires
    ∙ ap (outcome c.args.c.now c.args.inputs.now) (narrowed-one c.args.c.now inputs c.args.one.now)
