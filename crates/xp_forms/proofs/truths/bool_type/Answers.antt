use Rattle.std.proofs.Common.{◌∙◌, codes, sym}
use Rattle.xp_forms.proofs.Named.{named_known}
use Rattle.xp_forms.proofs.truths.bool_type.Goals as goal

pub returns-in-Some-clause-known : goal.returns-in-Some-clause-known
returns-in-Some-clause-known c = named_known c.args.c.now (codes "bool") c.in-Some.ty c.is_well_formed_law.ensures (sym c.type_named.ensures.value ∙ c.in-Some.is)
