use Rattle.xp_tree.specs.Term.{terms}
use Rattle.xp_tree.specs.Typed.{AllTyped}
use Rattle.xp_deep_cases.proofs.trees.wide.Given as goal

abbrev pub invariant-columns : goal.invariant-columns
invariant-columns l = AllTyped (terms l.args)
