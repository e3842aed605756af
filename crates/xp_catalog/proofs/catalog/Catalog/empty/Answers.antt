use Rattle.xp_catalog.proofs.KnownRows.{IsWellFormed-first}
use Rattle.xp_catalog.proofs.catalog.Catalog.empty.Goals as goal

pub invariant_of-result : goal.invariant_of-result
invariant_of-result c = rw (c.in_ok-pushed.ensures, c.new.ensures, c.in_ok-row.ensures, c.new-2.ensures, c.new-3.ensures, c.new-4.ensures, c.new-5.ensures, c.new-6.ensures) IsWellFormed-first
