use Rattle.xp_named.proofs.ArrayTypes.{each_is_valued}
use Rattle.xp_named.proofs.names.array_called.Goals as goal

pub returns-clause-valued : goal.returns-clause-valued
returns-clause-valued c = each_is_valued c.args.c.now c.in_ok-type_called.field-0 c.array_of.result c.is_well_formed_law.ensures c.array_of.ensures.element
