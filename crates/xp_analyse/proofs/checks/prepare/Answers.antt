use Rattle.std.proofs.Common.{◌∙◌}
use Rattle.std.proofs.lemmas.Result.{err_from_is_err_and}
use Rattle.xp_analyse.specs.Checks.{prepared}
use Rattle.xp_analyse.proofs.BaseTypes.{over_known}
use Rattle.xp_analyse.proofs.Preparing.{prepared_next, prepared_stop}
use Rattle.xp_analyse.proofs.checks.prepare.Goals as goal

pub with_check-requires-clause-base : goal.with_check-requires-clause-base
with_check-requires-clause-base c = record {
  within = c.domain_row.ensures.known.base;
  known = over_known c.args.c.now c.loop-number.number c.domain_row.result.now c.is_well_formed_law.ensures c.domain_row.ensures.row;
}

pub returns-in_err-checks-clause-value : goal.returns-in_err-checks-clause-value
returns-in_err-checks-clause-value c =
    let p = err_from_is_err_and c.from_residual.result c.from_residual.ensures.1 in
    rw (p.1, p.2)
    (prepared_stop c.args.c.now c.loop-number.checks c.loop-number.number c.domain_row.result.now c.in_err-checks.field-0.0 (prepared c.args.c.now)
    c.domain_row.ensures.row c.in_err-checks.ensures.value c.loop-number.invariant.says)

pub loop-number-preserved : goal.loop-number-preserved
loop-number-preserved c = record {
  truths = c.in_ok-checks.ensures.truths;
  below = c.in_ok-checks.ensures.below;
  says = prepared_next c.args.c.now c.loop-number.checks c.in_ok-checks.checks c.loop-number.number c.domain_row.result.now c.domain_row.ensures.row c.in_ok-checks.ensures.value ∙ c.loop-number.invariant.says;
}
