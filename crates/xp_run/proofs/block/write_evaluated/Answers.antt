use Rattle.std.proofs.Common.{◌∙◌, Ok, ap, sym}
use Rattle.std.proofs.lemmas.Result.{err_from_is_err_and}
use Rattle.xp_base.specs.Growth.{grown}
use Rattle.xp_run.specs.Answer.{output_rows}
use Rattle.xp_run.specs.Blocks.{ok_line}
use Rattle.xp_run.specs.inner.Arms.{count_after, ok_after, rows_text}
use Rattle.xp_run.proofs.OutputRows.{fine_none, fine_some, lines_none, lines_some, lines_text}
use Rattle.xp_run.proofs.Written.{stops_first, stops_then, writes_then}
use Rattle.xp_run.proofs.block.write_evaluated.Goals as goal

pub returns-in_err-count-clause-wrote : goal.returns-in_err-count-clause-wrote
returns-in_err-count-clause-wrote g c =
    let p = err_from_is_err_and c.from_residual.result c.from_residual.ensures.1 in
    let rows = output_rows c.args.rows.now c.args.arms.now in
    rw (p.1, p.2) (stops_first _ _ (rows_text c.args.k 0 rows) (ok_after c.args.k (count_after 0 rows)) _ _ _ _ (lines_text c.args.k 0 rows) c.in_err-count.ensures.wrote)

pub returns-in_err-write_ok-in-Some-clause-wrote : goal.returns-in_err-write_ok-in-Some-clause-wrote
returns-in_err-write_ok-in-Some-clause-wrote g c =
    let p = err_from_is_err_and c.from_residual-in_err-write_ok-in-Some.result c.from_residual-in_err-write_ok-in-Some.ensures.1 in
    let rows = output_rows c.args.rows.now c.args.arms.now in
    let w = c.in_ok-count.ensures.wrote in
    let n = sym c.in-Some.is ∙ c.in_ok-count.ensures.count in
    rw (p.1, p.2) (stops_then _ _ _ (rows_text c.args.k 0 rows) (ok_line c.args.k c.in-Some.count) _ _ _ _ _ w.0 w.1 c.in_err-write_ok-in-Some.ensures.wrote (lines_some c.args.k c.in-Some.count rows n))

pub returns-in_ok-write_ok-in-Some-clause-wrote : goal.returns-in_ok-write_ok-in-Some-clause-wrote
returns-in_ok-write_ok-in-Some-clause-wrote g c =
    let rows = output_rows c.args.rows.now c.args.arms.now in
    let w = c.in_ok-count.ensures.wrote in
    let n = sym c.in-Some.is ∙ c.in_ok-count.ensures.count in
    writes_then _ _ _ (rows_text c.args.k 0 rows) (ok_line c.args.k c.in-Some.count) _ _ _ _ (Ok c.in_ok-write_ok-in-Some.field-0) w.0 w.1 c.in_ok-write_ok-in-Some.ensures.wrote (lines_some c.args.k c.in-Some.count rows n)

pub returns-in_ok-write_ok-in-Some-clause-fine : goal.returns-in_ok-write_ok-in-Some-clause-fine
returns-in_ok-write_ok-in-Some-clause-fine g c = fine_some c.in-Some.count (output_rows c.args.rows.now c.args.arms.now) (sym c.in-Some.is ∙ c.in_ok-count.ensures.count)

pub returns-in-None-clause-wrote : goal.returns-in-None-clause-wrote
returns-in-None-clause-wrote g c =
    let rows = output_rows c.args.rows.now c.args.arms.now in
    let w = c.in_ok-count.ensures.wrote in
    let n = sym c.in-None.is ∙ c.in_ok-count.ensures.count in
    (w.0 ∙ ap (grown (g.K.Sink.contents c.args.out.now)) (sym (lines_none c.args.k rows n)), w.1)

pub returns-in-None-clause-fine : goal.returns-in-None-clause-fine
returns-in-None-clause-fine g c = fine_none (output_rows c.args.rows.now c.args.arms.now) (sym c.in-None.is ∙ c.in_ok-count.ensures.count)
