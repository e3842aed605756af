use Rattle.std.proofs.Common.{◌≡◌, ◌==◌, false, length}
use Rattle.xp_expressions.proofs.Filled.{filled_array}
use Rattle.xp_expressions.proofs.composed.array_of.Goals as goal

pub returns-else-is_empty-clause-value : goal.returns-else-is_empty-clause-value
returns-else-is_empty-clause-value c =
    let some : false ≡ (length c.args.elements.parts == 0) = rw c.as_slice.ensures at c.if-is_empty.ensures in
    rw (filled_array c.args.scene.now c.args.at c.args.nodes c.args.elements c.args.elements.parts some) (rw c.from-at.ensures at c.array_made.ensures.value)
