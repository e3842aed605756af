use Rattle.std.proofs.Common.{◌∙◌}
use Rattle.xp_run.proofs.Reading.{tokens_told}
use Rattle.xp_run.proofs.analysis.analyse_some.Goals as goal

pub returns-clause-value : goal.returns-clause-value
returns-clause-value c = c.in_ok-analyse_tokens.ensures.value ∙ tokens_told c.args.inputs.now c.args.tokens.now (λ e. c.if-len-eq1.false (c.len.ensures ∙ e))
