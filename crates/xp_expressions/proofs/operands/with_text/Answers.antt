use Rattle.xp_resolve.specs.Literals.{text_literal}
use Rattle.xp_expressions.proofs.operands.with_text.Goals as goal

pub returns-clause-value : goal.returns-clause-value
returns-clause-value c = rw (c.from-at.ensures, c.new.ensures) at (c.with_made.ensures.value (text_literal c.args.scene.now c.from-at.result c.args.text.now c.args.progress) c.text_literal-made.ensures.value)
