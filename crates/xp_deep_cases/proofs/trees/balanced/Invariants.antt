use Rattle.xp_tree.specs.Term.{type_of}
use Rattle.xp_tree.specs.Typed.{IsBool}
use Rattle.xp_deep_cases.proofs.trees.balanced.Given as goal

abbrev pub invariant-levels : goal.invariant-levels
invariant-levels l = IsBool (type_of l.tree)
