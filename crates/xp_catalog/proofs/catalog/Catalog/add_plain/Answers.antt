use Rattle.std.proofs.Common.{refl}
use Rattle.xp_catalog.specs.declared.record.Record.TheVariants as row
use Rattle.xp_catalog.proofs.KnownRows.{IsWellFormed-after}
use Rattle.xp_catalog.proofs.catalog.Catalog.add_plain.Goals as goal

pub invariant_of-result : goal.invariant_of-result
invariant_of-result c = IsWellFormed-after _ c.args.self _ (row.Plain c.args.name c.args.category c.args.preferred c.args.line) c.self.view_is c.requires.room c.requires.keeps (rw c.in_ok-with_type.ensures refl)
