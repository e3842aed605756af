use Rattle.xp_types.proofs.Bases.{over_no_domain}
use Rattle.xp_types.proofs.readers.base.Goals as goal

pub returns-in-Domain-clause-plain : goal.returns-in-Domain-clause-plain
returns-in-Domain-clause-plain c = over_no_domain c.args.c.now c.in-Domain.row.0 c.domain_row.result.now c.is_well_formed_law.ensures c.domain_row.ensures.row
