use Rattle.std.proofs.Common.{◌∙◌, drop, sym}
use Rattle.xp_types.specs.Common.{considered}
use Rattle.xp_types.proofs.Considered.{candidate_stays}
use Rattle.xp_types.proofs.common_type.candidate_of.Goals as goal

pub returns-then-preferred-clause-value : goal.returns-then-preferred-clause-value
returns-then-preferred-clause-value c = sym (candidate_stays c.args.c.now c.loop-other.candidate (considered c.args.c.now (drop c.loop-other.other-index c.args.others.now)) (sym c.preferred.ensures ∙ c.if-preferred.true)) ∙ c.loop-other.invariant.rest
