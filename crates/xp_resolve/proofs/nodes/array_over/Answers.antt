use Rattle.xp_resolve.proofs.NodeLists.{elements_kept}
use Rattle.xp_resolve.proofs.nodes.array_over.Goals as goal

pub make_array-requires : goal.make_array-requires
make_array-requires c =
    rw c.node_type.ensures (elements_kept c.args.c.now c.args.ty c.args.trees c.requires.alike, rw c.as_slice.ensures at c.are_typed_law.ensures)
