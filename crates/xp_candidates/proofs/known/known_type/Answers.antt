use Rattle.std.proofs.Common.{◌≡◌, cond, None, Some, subst, sym}
use Rattle.xp_candidates.specs.Known.{known_type}
use Rattle.xp_candidates.proofs.Found.{known_by}
use Rattle.xp_candidates.proofs.known.known_type.Goals as goal

pub returns-then-known_are : goal.returns-then-known_are
returns-then-known_are c =
    subst (λ same. cond same (Some c.in_ok-first.first) None ≡ known_type c.args.types.now) c.if-known_are.true (known_by c.args.types.now c.all_known.result c.known_are.result c.in_ok-first.first c.all_known.ensures c.if-all_known.false (sym c.in_ok-first.ensures) c.known_are.ensures)

pub returns-else-known_are : goal.returns-else-known_are
returns-else-known_are c =
    subst (λ same. cond same (Some c.in_ok-first.first) None ≡ known_type c.args.types.now) c.if-known_are.false (known_by c.args.types.now c.all_known.result c.known_are.result c.in_ok-first.first c.all_known.ensures c.if-all_known.false (sym c.in_ok-first.ensures) c.known_are.ensures)
