use Rattle.std.proofs.Common.{◌∙◌, sym}
use Rattle.xp_forms.proofs.Named.{common_known}
use Rattle.xp_forms.proofs.common.decided.Goals as goal

pub returns-in-One-clause-known : goal.returns-in-One-clause-known
returns-in-One-clause-known c = common_known c.args.c.now c.args.inputs.now c.in-One.ty c.is_well_formed_law.ensures c.requires.text (sym c.common.ensures.value ∙ c.in-One.is)
