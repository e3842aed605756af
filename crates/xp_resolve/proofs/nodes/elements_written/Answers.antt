use Rattle.xp_tree.specs.Term.{type_of}
use Rattle.xp_resolve.proofs.TextTypes.{array_is_array, texts_is_array, texts_may_be}
use Rattle.xp_resolve.proofs.nodes.elements_written.Goals as goal

pub make_elements-requires : goal.make_elements-requires
make_elements-requires c =
    rw c.node_type.ensures (
      (
        array_is_array c.args.c.now (type_of c.args.t) c.requires.source.type.same c.requires.array,
        texts_is_array c.args.c.now c.args.texts c.requires.texts,
        texts_may_be c.args.c.now c.args.texts c.is_well_formed_law.ensures c.requires.texts,
      ),
      c.is_typed_law.ensures,
    )
