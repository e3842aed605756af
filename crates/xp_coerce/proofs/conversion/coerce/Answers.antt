use Rattle.xp_tree.specs.Term.{type_of}
use Rattle.xp_coerce.proofs.Typing.{takes_kept}
use Rattle.xp_coerce.proofs.conversion.coerce.Goals as goal

pub sized-requires : goal.sized-requires
sized-requires c = takes_kept c.args.c.now c.args.target c.args.modifier (type_of c.in_ok-converted.converted) c.is_well_formed_law.ensures c.requires.modifier c.in_ok-converted.ensures.alike
