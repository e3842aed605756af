use Rattle.std.proofs.Common.{refl}
use Rattle.std.specs.Prelude.{option_map}
use Rattle.xp_run.specs.Inputs.{Names}
use Rattle.xp_run.proofs.Endings.{Reports-unread, in_order}
use Rattle.xp_run.proofs.program.run_named.Goals as goal

pub returns-in-Err-clause-report : goal.returns-in-Err-clause-report
returns-in-Err-clause-report g c =
    Reports-unread (g.F.Shelf.held c.args.shelf.now) _ _ (g.K.Sink.contents c.args.out.now) _ c.in-Err.end c.exit_of.result c.in-Err.ensures.texts c.in-Err.ensures.answer c.exit_of.ensures.end c.exit_of.ensures.status refl

pub returns-in-Ok-write_report-clause-cause : goal.returns-in-Ok-write_report-clause-cause
returns-in-Ok-write_report-clause-cause g c =
    let names : Names = record { catalog = c.args.catalog.now; script = c.args.script.now; rows = option_map (λ name. name.now) c.args.rows } in
    rw c.exit_of-in-Ok-write_report.ensures.end (in_order (g.F.Shelf.held c.args.shelf.now) names c.in-Ok.inputs c.in-Ok.ensures.answer)
