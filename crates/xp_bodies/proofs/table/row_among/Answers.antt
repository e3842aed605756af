use Rattle.std.proofs.Common.{sym, ◌∙◌, arith}
use Rattle.xp_bodies.proofs.Rows.{row-found, row-passed}
use Rattle.xp_bodies.proofs.table.row_among.Goals as goal

pub returns-then-left-family : goal.returns-then-left-family
returns-then-left-family c = sym (c.loop-family.invariant ∙ row-found c.args.families.now c.loop-family.family-index _ c.loop-family.left _ (omega arith) c.if-left-family.true)

pub loop-family-preserved : goal.loop-family-preserved
loop-family-preserved c = c.loop-family.invariant ∙ row-passed c.args.families.now c.loop-family.family-index _ c.loop-family.left (omega arith) (omega arith)
