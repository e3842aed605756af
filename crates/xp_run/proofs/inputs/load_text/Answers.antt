use Rattle.xp_run.proofs.Texts.{reads_whole}
use Rattle.xp_run.proofs.inputs.load_text.Goals as goal

pub returns-in-Ok-clause-text : goal.returns-in-Ok-clause-text
returns-in-Ok-clause-text g c = reads_whole (g.F.Shelf.held c.args.shelf.now) c.args.name.now c.args.limit c.in-Ok.text c.in-Ok.ensures.answer.0 c.in-Ok.ensures.answer.1
