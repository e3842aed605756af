use Rattle.xp_columns.specs.declared.columns.Inputs.TheVariants.{All}
use Rattle.xp_analyse.proofs.Shapes.{arms_kept, table_kept}
use Rattle.xp_analyse.proofs.joined.joined.Goals as goal

pub returns-in-UnionAll-clause-shape : goal.returns-in-UnionAll-clause-shape
returns-in-UnionAll-clause-shape c =
    arms_kept c.args.scene.now c.in-UnionAll.arms c.args.nodes c.args.lists c.arms_united.result (rw c.in-UnionAll.is at c.requires.shape) (rw c.as_slice.ensures at c.arms_united.ensures.value)

pub returns-in-Values-clause-shape : goal.returns-in-Values-clause-shape
returns-in-Values-clause-shape c = table_kept c.args.scene.now All c.in-Values.at.start c.args.nodes c.args.lists c.values_made.result (rw c.from.ensures at c.values_made.ensures.value)
