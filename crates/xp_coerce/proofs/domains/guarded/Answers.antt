use Rattle.xp_coerce.specs.Types.{node_type}
use Rattle.xp_coerce.proofs.Guards.{domain_typed}
use Rattle.xp_coerce.proofs.domains.guarded.Goals as goal

pub make_domain-requires : goal.make_domain-requires
make_domain-requires c =
    rw c.node_type.ensures
    (domain_typed c.args.t c.in-Domain.row c.domain_row.result.now.not_null c.in_ok-check-in-Domain.check (node_type c.args.c.now c.args.target) c.is_typed_law.ensures c.requires.alike.kept c.in_ok-check-in-Domain.ensures.typed c.in_ok-check-in-Domain.ensures.truth)
