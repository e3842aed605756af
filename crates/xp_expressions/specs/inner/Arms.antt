-- An arm of CASE by itself.
use Rattle.xp_grammar.specs.declared.ast.Arm.{Arm, fold-Arm}
use Rattle.xp_resolve.specs.Scene.{Scene}
use Rattle.xp_expressions.specs.Branches.{Branch}
use Rattle.xp_expressions.specs.Expressions.{Meaning, branch, node}

abbrev pub branch_of : Scene → Arm → Branch
branch_of scene = fold-Arm Meaning Branch (node scene) branch
