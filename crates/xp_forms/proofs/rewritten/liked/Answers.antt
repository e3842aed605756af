use Rattle.xp_resolve.specs.Operators.{operated}
use Rattle.xp_resolve.proofs.Steps.{then_err, then_ok}
use Rattle.xp_forms.specs.Rewritten.{judged, like_operator}
use Rattle.xp_forms.proofs.rewritten.liked.Goals as goal

pub returns-in-Ok-clause-value : goal.returns-in-Ok-clause-value
returns-in-Ok-clause-value c =
    then_ok (operated c.args.scene.now c.args.at (like_operator c.args.negated c.args.any_case) c.args.before c.args.operands) (judged c.args.scene.now c.args.at) c.in-Ok.made c.judged.result
    (rw c.like_operator-name.ensures at c.in-Ok.ensures.value) c.judged.ensures.value

pub returns-in-Err-clause-value : goal.returns-in-Err-clause-value
returns-in-Err-clause-value c =
    then_err (operated c.args.scene.now c.args.at (like_operator c.args.negated c.args.any_case) c.args.before c.args.operands) (judged c.args.scene.now c.args.at) c.in-Err.refusal
    (rw c.like_operator-name.ensures at c.in-Err.ensures.value)
