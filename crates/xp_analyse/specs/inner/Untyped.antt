-- What an arm of CASE by itself leaves without a type.
use Rattle.xp_grammar.specs.declared.ast.Arm.{Arm, fold-Arm}
use Rattle.xp_analyse.specs.Untyped.{in_arm, in_form}
use Rattle.xp_analyse.specs.declared.untyped.Untyped.{Untyped}

abbrev pub arm_left : Arm → Untyped
arm_left = fold-Arm Untyped Untyped in_form in_arm
