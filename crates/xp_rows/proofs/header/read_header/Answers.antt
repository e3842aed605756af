use Rattle.std.proofs.Common.{[], ◌∷◌, ◌∙◌, ap, arith, length, length-append}
use Rattle.csv.specs.Records.{fields_of}
use Rattle.xp_rows.proofs.Progress.{columns-more, one-column}
use Rattle.xp_rows.proofs.header.read_header.Goals as goal

pub loop-place-preserved : goal.loop-place-preserved
loop-place-preserved c =
    let before = c.loop-place.header in
    let loads = rw (← c.loop-place.invariant.count, c.field.ensures) at c.in_ok-column.ensures.value in
    record {
      count = omega (arith, ap length c.in_ok-push.ensures.ok, length-append c.loop-place.header (c.in_ok-column.column ∷ []), c.loop-place.invariant.count);
      few = omega (arith, c.in_ok-column.ensures.few, c.loop-place.invariant.count);
      columns = rw c.in_ok-push.ensures.ok (one-column c.args.c.now c.loop-place.header c.in_ok-column.column c.loop-place.invariant.columns c.in_ok-column.ensures.column);
      says = rw c.in_ok-push.ensures.ok (columns-more c.args.c.now (fields_of c.args.fields.now) c.loop-place.place c.loop-place.header c.in_ok-column.column (omega arith) loads ∙ c.loop-place.invariant.says);
    }
