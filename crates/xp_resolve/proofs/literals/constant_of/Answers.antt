use Rattle.xp_resolve.proofs.Reading.{read_source}
use Rattle.xp_resolve.proofs.literals.constant_of.Goals as goal

pub returns-in-Ok-clause-source : goal.returns-in-Ok-clause-source
returns-in-Ok-clause-source c = read_source c.args.scene.now.c c.args.ty c.args.text.now c.in-Ok.tree c.requires (rw c.catalog.ensures at c.in-Ok.ensures.value)
