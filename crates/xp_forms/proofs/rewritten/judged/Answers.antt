use Rattle.std.proofs.Common.{◌∙◌, sym}
use Rattle.xp_forms.proofs.Judging.{judged_is}
use Rattle.xp_forms.proofs.rewritten.judged.Goals as goal

pub returns-in-Ok-clause-value : goal.returns-in-Ok-clause-value
returns-in-Ok-clause-value c =
    judged_is c.args.scene.now c.args.at c.args.made c.in-Ok.ty c.judged_as.result (rw c.catalog.ensures at (sym c.bool_type.ensures.value ∙ c.in-Ok.is)) c.judged_as.ensures.value
