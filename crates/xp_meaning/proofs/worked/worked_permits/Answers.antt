use Rattle.xp_meaning.proofs.Examples.{arm_raises, constant_part, no_constant_part, strict_null}
use Rattle.xp_meaning.proofs.worked.worked_permits.Goals as goal

pub returns-clause-arm_raises : goal.returns-clause-arm_raises
returns-clause-arm_raises c = arm_raises

pub returns-clause-constant_part : goal.returns-clause-constant_part
returns-clause-constant_part c = constant_part

pub returns-clause-no_constant_part : goal.returns-clause-no_constant_part
returns-clause-no_constant_part c = no_constant_part

pub returns-clause-strict_null : goal.returns-clause-strict_null
returns-clause-strict_null c = strict_null
