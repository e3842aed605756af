use Rattle.xp_run.proofs.Columns.{header_few}
use Rattle.xp_run.proofs.inputs.load_named_rows.Goals as goal

pub returns-in-Ok-load_rows-clause-few : goal.returns-in-Ok-load_rows-clause-few
returns-in-Ok-load_rows-clause-few g c = header_few c.args.catalog.now c.as_slice.result.now c.in-Ok-load_rows.table c.in-Ok-load_rows.ensures.answer
