use Rattle.std.proofs.Common.{◌≡◌, ◌==◌, false, length}
use Rattle.xp_expressions.proofs.Filled.{filled_selection}
use Rattle.xp_expressions.proofs.composed.selection_of.Goals as goal

pub returns-else-is_empty-clause-value : goal.returns-else-is_empty-clause-value
returns-else-is_empty-clause-value c =
    let some : false ≡ (length c.args.operands.parts == 0) = rw c.as_slice.ensures at c.if-is_empty.ensures in
    rw (filled_selection c.args.scene.now c.args.at c.args.which c.args.nodes c.args.operands c.args.operands.parts some) (rw c.from-at.ensures at c.selected.ensures.value)
