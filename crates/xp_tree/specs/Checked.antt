-- The check that a domain has.
use Rattle.std.specs.Prelude.{◌==◌, cond, List, [], ◌∷◌, Option, Some, None}
use Rattle.xp_base.specs.declared.numbers.RowNo.{RowNo}
use Rattle.xp_tree.specs.declared.checks.DomainCheck.{DomainCheck}
use Rattle.xp_tree.specs.Term.{Term}

abbrev pub check_of : List DomainCheck → RowNo → Option Term
check_of [] domain = None
check_of (entry ∷ rest) domain = cond (entry.domain.0 == domain.0) (Some entry.check) (check_of rest domain)
