use Rattle.std.proofs.Common.{refl}
use Rattle.xp_catalog.specs.declared.record.Record.TheVariants as row
use Rattle.xp_catalog.proofs.KnownRows.{IsWellFormed-after}
use Rattle.xp_catalog.proofs.catalog.Catalog.add_domain.Goals as goal

pub invariant_of-result : goal.invariant_of-result
invariant_of-result c = IsWellFormed-after _ c.args.self _ (row.Domain c.args.name c.args.base c.args.not_null c.args.check c.args.line) c.self.view_is c.requires.room c.requires.keeps (rw (c.in_ok-with_array.ensures, c.in_ok-pushed.ensures, c.in_ok-from_str.ensures, c.as_str.ensures, c.len.ensures, c.len-2.ensures, c.category_at.ensures, c.as_slice.ensures) refl)
