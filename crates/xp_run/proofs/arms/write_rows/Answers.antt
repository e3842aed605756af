use Rattle.std.proofs.Common.{◌∙◌, ◌^◌, ◌≤◌, length, arith, refl, sym}
use Rattle.std.proofs.lemmas.Result.{err_from_is_err_and}
use Rattle.xp_base.proofs.Progress.{Progress-end, Progress-step}
use Rattle.xp_run.specs.Answer.{arm_rows}
use Rattle.xp_run.proofs.OutputRows.{arm_few, arms_count, arms_front, arms_step, arms_stop, count-le}
use Rattle.xp_run.proofs.Written.{Stops-later}
use Rattle.xp_run.proofs.arms.write_rows.Goals as goal

pub returns-in_err-after-clause-wrote : goal.returns-in_err-after-clause-wrote
returns-in_err-after-clause-wrote g c =
    let p = err_from_is_err_and c.from_residual.result c.from_residual.ensures.1 in
    let i = c.loop-arm.invariant in
    let f = arms_front c.args.k c.loop-arm.done c.args.rows.now c.args.arms.now c.loop-arm.arm-index c.arm-item.result c.loop-arm-test.true c.arm-item.is in
    rw (p.1, p.2) (Stops-later _ _ _ _ _ _ _ _ _ _ _ i.wrote f.1 i.same c.in_err-after.ensures.wrote)

pub returns-in-None-clause-wrote : goal.returns-in-None-clause-wrote
returns-in-None-clause-wrote g c =
    let i = c.loop-arm.invariant in
    let e = arms_stop c.args.k c.loop-arm.done c.args.rows.now c.args.arms.now c.loop-arm.arm-index c.arm-item.result c.loop-arm-test.true c.arm-item.is (sym c.in-None.is ∙ c.in_ok-after.ensures.count) in
    (Progress-end _ _ _ _ (Progress-step _ _ _ _ _ _ _ i.wrote e c.in_ok-after.ensures.wrote.0) refl, c.in_ok-after.ensures.wrote.1 ∙ i.same)

pub loop-arm-preserved : goal.loop-arm-preserved
loop-arm-preserved g c =
    let i = c.loop-arm.invariant in
    let w = c.in_ok-after.ensures.wrote in
    let n = sym c.in-Some.is ∙ c.in_ok-after.ensures.count in
    let e = arms_step c.args.k c.loop-arm.done c.in-Some.after c.args.rows.now c.args.arms.now c.loop-arm.arm-index c.arm-item.result c.loop-arm-test.true c.arm-item.is n in
    let most = count-le c.loop-arm.done c.in-Some.after (arm_rows c.args.rows.now c.arm-item.result) (sym n) in
    let few : length (arm_rows c.args.rows.now c.arm-item.result) ≤ 2 ^ 64 = arm_few c.args.rows.now c.arm-item.result (omega arith) in
    record {
      wrote = Progress-step _ _ _ _ _ _ _ i.wrote e w.0;
      count = sym (arms_count c.loop-arm.done c.in-Some.after c.args.rows.now c.args.arms.now c.loop-arm.arm-index c.arm-item.result c.loop-arm-test.true c.arm-item.is n) ∙ i.count;
      few = omega (arith, most, few, i.few);
      same = w.1 ∙ i.same;
    }
