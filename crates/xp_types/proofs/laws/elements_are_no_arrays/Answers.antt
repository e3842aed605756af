use Rattle.std.proofs.Common.{◌≡◌, IfSome, Option, Some, None, refl}
use Rattle.xp_base.specs.declared.numbers.TypeNo.{TypeNo}
use Rattle.xp_catalog.specs.Contents.{Contents}
use Rattle.xp_catalog.specs.WellFormed.{IsWellFormed}
use Rattle.xp_types.specs.Readers.{element}
use Rattle.xp_types.proofs.Built.{elements_flat}
use Rattle.xp_types.proofs.laws.elements_are_no_arrays.Goals as goal

by : (c : Contents) (t : TypeNo) (o : Option TypeNo) → IsWellFormed c → element c t ≡ o → IfSome o (λ type. element c type ≡ None)
by c t None well is = tt
by c t (Some e) well is = elements_flat c t e well is

pub returns : goal.returns
returns c = by c.args.c.now c.args.ty (element c.args.c.now c.args.ty) c.is_well_formed_law.ensures refl
