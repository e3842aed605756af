-- Checks of domains that stand before a number.
use Rattle.std.specs.Prelude.{ℕ, ◌<◌, List}
use Rattle.std.specs.List.{All}
use Rattle.xp_tree.specs.declared.checks.DomainCheck.{DomainCheck}

-- the domain of each is before that of this number
abbrev pub AreBelow : ℕ → List DomainCheck → Type 0
AreBelow number checks = All (λ entry. entry.domain.0 < number) checks
