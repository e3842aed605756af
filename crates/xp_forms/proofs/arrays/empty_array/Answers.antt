use Rattle.xp_forms.proofs.Elements.{array_type_known}
use Rattle.xp_forms.proofs.arrays.empty_array.Goals as goal

pub no_elements-requires-clause-known : goal.no_elements-requires-clause-known
no_elements-requires-clause-known c = array_type_known c.args.scene.now.c c.args.ty (rw c.catalog.ensures at c.is_well_formed_law.ensures) c.requires.array
