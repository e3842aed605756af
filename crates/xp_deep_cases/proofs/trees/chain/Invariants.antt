use Rattle.xp_tree.specs.Term.{type_of}
use Rattle.xp_tree.specs.Typed.{IsBool}
use Rattle.xp_deep_cases.proofs.trees.chain.Given as goal

abbrev pub invariant-links : goal.invariant-links
invariant-links l = IsBool (type_of l.tree)
