use Rattle.std.proofs.Common.{◌∙◌}
use Rattle.xp_bytea.proofs.Strpos.{begins_so}
use Rattle.xp_bytea.proofs.parts.begins_with.Goals as goal

pub returns : goal.returns
returns c = c.starts_with.ensures.value ∙ begins_so c.args.a.now c.args.part.now
