use Rattle.xp_coerce.specs.Asked.{AreTruths}
use Rattle.xp_tree_cases.proofs.checks.checks_of.Given as goal

-- those so far are truth values
abbrev pub invariant-loop-domain : goal.invariant-loop-domain
invariant-loop-domain l = AreTruths l.checks
