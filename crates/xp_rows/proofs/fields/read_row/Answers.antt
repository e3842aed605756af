use Rattle.std.proofs.Common.{◌∙◌, arith}
use Rattle.std.proofs.lemmas.Result.{err_from_is_err_and}
use Rattle.csv.specs.Records.{fields_of}
use Rattle.xp_rows.proofs.Progress.{fits-more, values-fault, values-more, wide-fault}
use Rattle.xp_rows.proofs.fields.read_row.Goals as goal

pub loop-place-preserved : goal.loop-place-preserved
loop-place-preserved c =
    let loads = rw c.field-text.ensures at c.in_ok-value.ensures.value in
    record {
      says = rw c.in_ok-push.ensures.items (values-more c.args.c.now c.args.row (fields_of c.args.fields.now) c.loop-place.place c.args.header.now c.index-header-place.result c.loop-place.values.items c.in_ok-value.value c.loop-place-test.true c.index-header-place.is loads ∙ c.loop-place.invariant.says);
      fits = rw c.in_ok-push.ensures.items (fits-more c.args.c.now c.args.header.now c.loop-place.place c.index-header-place.result c.loop-place.values.items c.in_ok-value.value c.loop-place-test.true c.index-header-place.is c.loop-place.invariant.fits c.in_ok-value.ensures.fits);
    }

pub returns-in_err-value-clause-values : goal.returns-in_err-value-clause-values
returns-in_err-value-clause-values c =
    let p = err_from_is_err_and c.from_residual-in_err-value.result c.from_residual-in_err-value.ensures.1 in
    let loads = rw c.field-text.ensures at c.in_err-value.ensures.value in
    let whole = rw c.loop-place.invariant.says at (values-fault c.args.c.now c.args.row (fields_of c.args.fields.now) c.loop-place.place c.args.header.now c.index-header-place.result c.loop-place.values.items c.in_err-value.field-0.0 c.loop-place-test.true c.index-header-place.is loads) in
    rw (p.1, p.2) (wide-fault c.args.c.now c.args.header.now c.args.row (fields_of c.args.fields.now) c.in_err-value.field-0.0 (omega (arith, c.len.ensures)) whole)
