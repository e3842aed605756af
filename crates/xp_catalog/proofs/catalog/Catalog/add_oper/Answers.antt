use Rattle.std.proofs.Common.{refl}
use Rattle.xp_catalog.specs.declared.record.Record.TheVariants as row
use Rattle.xp_catalog.proofs.KnownRows.{IsWellFormed-after}
use Rattle.xp_catalog.proofs.catalog.Catalog.add_oper.Goals as goal

pub invariant_of-result : goal.invariant_of-result
invariant_of-result c = IsWellFormed-after _ c.args.self _ (row.Operator c.args.row) c.self.view_is c.requires.room c.requires.keeps (rw c.in_ok-pushed.ensures refl)
