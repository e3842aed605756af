use Rattle.std.proofs.Common.{◌≡◌, ◌∙◌, ap, arith, sym, true}
use Rattle.std.specs.Prelude.{is_ok}
use Rattle.std.proofs.lemmas.Result.{err_from_is_err_and}
use Rattle.xp_base.proofs.Progress.{Progress-step}
use Rattle.xp_run.specs.Answer.{output_row}
use Rattle.xp_run.proofs.OutputRows.{count_step, text_front, text_step}
use Rattle.xp_run.proofs.Written.{Stops-later}
use Rattle.xp_run.proofs.arms.write_over.Goals as goal

pub returns-in_err-write_row-clause-wrote : goal.returns-in_err-write_row-clause-wrote
returns-in_err-write_row-clause-wrote g c =
    let p = err_from_is_err_and c.from_residual.result c.from_residual.ensures.1 in
    let i = c.loop-row.invariant in
    let f = text_front (output_row c.args.trees.now) c.args.k c.loop-row.done c.args.rows.now c.loop-row.row-index c.row-item.result c.as_slice.result.now c.loop-row-test.true c.row-item.is c.as_slice.ensures in
    rw (p.1, p.2) (Stops-later _ _ _ _ _ _ _ _ _ _ _ i.wrote f.1 i.same c.in_err-write_row.ensures.wrote)

pub loop-row-preserved : goal.loop-row-preserved
loop-row-preserved g c =
    let i = c.loop-row.invariant in
    let w = c.in_ok-write_row.ensures.wrote in
    let valued : true ≡ is_ok (output_row c.args.trees.now c.as_slice.result.now) = grind (arith, c.in_ok-write_row.ensures.valued, c.if-not-branch.false) in
    let e = text_step (output_row c.args.trees.now) c.args.k c.loop-row.done c.args.rows.now c.loop-row.row-index c.row-item.result c.as_slice.result.now c.loop-row-test.true c.row-item.is c.as_slice.ensures valued in
    record {
      wrote = Progress-step _ _ _ _ _ _ _ i.wrote e w.0;
      count = sym (count_step (output_row c.args.trees.now) c.loop-row.done c.args.rows.now c.loop-row.row-index c.row-item.result c.loop-row-test.true c.row-item.is (valued ∙ ap (λ r. is_ok (output_row c.args.trees.now r)) c.as_slice.ensures)) ∙ i.count;
      few = omega arith;
      same = w.1 ∙ i.same;
    }
