use Rattle.std.proofs.Common.{◌≡◌, Ok, true}
use Rattle.xp_resolve.specs.Literals.{number}
use Rattle.xp_resolve.specs.inner.Sources.{AreSources}
use Rattle.xp_expressions.proofs.operands.with_one.Goals as goal

pub returns-in-Ok-clause-value : goal.returns-in-Ok-clause-value
returns-in-Ok-clause-value c said is =
    let own : said ≡ Ok c.in-Ok.before = rw c.in-Ok.is at is in
    rw own (rw (c.from-at.ensures, c.one.ensures) at (c.with_made.ensures.value (number c.args.scene.now c.from-at.result c.one.result true c.in-Ok.before.progress) c.number-made.ensures.value))

pub returns-in-Ok-clause-sources : goal.returns-in-Ok-clause-sources
returns-in-Ok-clause-sources c =
    let own : AreSources c.args.scene.now.c c.in-Ok.before.parts = rw c.in-Ok.is at c.requires.sources in
    c.with_made.ensures.sources c.args.scene.now.c own c.number-made.ensures.source
