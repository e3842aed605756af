use Rattle.std.proofs.Common.{arith}
use Rattle.std.proofs.lemmas.Result.{err_from_is_err_and}
use Rattle.csv.specs.Records.{fields_of}
use Rattle.xp_rows.proofs.Steps.{all-rows, next-row, one-row, row-fault, too-many}
use Rattle.xp_rows.proofs.loading.read_rows.Goals as goal

pub loop-done-preserved : goal.loop-done-preserved
loop-done-preserved c =
    let takes = rw c.if-not-branch.false at c.in_ok-read_next.ensures.records in
    record {
      over = (takes 0).0;
      says = rw c.in_ok-push.ensures.ok (next-row c.args.c.now c.args.header.now c.loop-done.done c.loop-done.rows c.loop-done.reader c.read_next.new.reader (fields_of c.read_next.new.fields) c.in_ok-read_row.field-0 _ c.loop-done-test.true takes c.in_ok-read_row.ensures.values c.loop-done.invariant.says);
      fit = rw c.in_ok-push.ensures.ok (one-row c.args.c.now c.args.header.now c.loop-done.rows c.in_ok-read_row.field-0 c.loop-done.invariant.fit c.in_ok-read_row.ensures.fits);
    }

pub returns-then-not-branch-clause-rows : goal.returns-then-not-branch-clause-rows
returns-then-not-branch-clause-rows c = all-rows c.args.c.now c.args.header.now c.loop-done.done c.loop-done.rows c.loop-done.reader c.read_next.new.reader (fields_of c.read_next.new.fields) _ (omega arith) (rw c.if-not-branch.true at c.in_ok-read_next.ensures.records) c.loop-done.invariant.says

pub returns-in_err-read_row-clause-rows : goal.returns-in_err-read_row-clause-rows
returns-in_err-read_row-clause-rows c =
    let p = err_from_is_err_and c.from_residual-in_err-read_row.result c.from_residual-in_err-read_row.ensures.1 in
    let takes = rw c.if-not-branch.false at c.in_ok-read_next.ensures.records in
    rw (p.1, p.2) (row-fault c.args.c.now c.args.header.now c.loop-done.done c.loop-done.rows c.loop-done.reader c.read_next.new.reader (fields_of c.read_next.new.fields) c.in_err-read_row.field-0.0 _ c.loop-done-test.true takes c.in_err-read_row.ensures.values c.loop-done.invariant.says)

pub returns-then-branch-clause-rows : goal.returns-then-branch-clause-rows
returns-then-branch-clause-rows c =
    too-many c.args.c.now c.args.header.now c.loop-done.done c.loop-done.rows c.loop-done.reader c.read_next-2.new.reader (fields_of c.read_next-2.new.fields) _ (omega arith) (rw c.if-branch.true at c.in_ok-read_next-2.ensures.records) c.loop-done.invariant.says

pub returns-else-branch-clause-rows : goal.returns-else-branch-clause-rows
returns-else-branch-clause-rows c =
    all-rows c.args.c.now c.args.header.now c.loop-done.done c.loop-done.rows c.loop-done.reader c.read_next-2.new.reader (fields_of c.read_next-2.new.fields) _ (omega arith) (rw c.if-branch.false at c.in_ok-read_next-2.ensures.records) c.loop-done.invariant.says
