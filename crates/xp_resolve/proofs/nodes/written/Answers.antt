use Rattle.xp_resolve.proofs.TextTypes.{text_may_be}
use Rattle.xp_resolve.proofs.nodes.written.Goals as goal

pub make_output-requires : goal.make_output-requires
make_output-requires c = rw c.node_type.ensures (text_may_be c.args.c.now c.args.text c.is_well_formed_law.ensures c.requires.text, c.is_typed_law.ensures)
