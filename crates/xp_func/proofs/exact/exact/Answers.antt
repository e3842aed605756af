use Rattle.std.proofs.Common.{◌∙◌}
use Rattle.xp_func.specs.Exact.{is_exact}
use Rattle.xp_func.proofs.ExactAt.{within_marked}
use Rattle.xp_func.proofs.exact.exact.Goals as goal

pub returns-clause-within : goal.returns-clause-within
returns-clause-within c = within_marked (is_exact c.args.inputs.now) c.args.candidates.now c.deref.result.now c.first_two.result (c.deref.ensures.value ∙ c.in_ok-marks.ensures) c.first_two.ensures.within
