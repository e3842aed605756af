use Rattle.std.proofs.Common.{sym}
use Rattle.xp_run.proofs.Endings.{Reports-no_words}
use Rattle.xp_run.proofs.program.run.Goals as goal

pub returns-in-None-clause-report : goal.returns-in-None-clause-report
returns-in-None-clause-report g c = Reports-no_words (g.F.Shelf.held c.args.shelf.now) _ (g.K.Sink.contents c.args.out.now) c.exit_of.result (sym c.in-None.ensures) c.exit_of.ensures.end c.exit_of.ensures.status
