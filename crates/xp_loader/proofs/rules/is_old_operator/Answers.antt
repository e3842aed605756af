use Rattle.std.proofs.Common.{ap, ◌∙◌}
use Rattle.std.specs.Option.{is_some}
use Rattle.xp_loader.proofs.rules.is_old_operator.Goals as goal

pub returns-in-None : goal.returns-in-None
returns-in-None c = rw c.in-None.is (rw c.as_str-name.ensures at (c.is_some-in-None.ensures ∙ ap is_some c.oper_at-in-None.ensures.value))
