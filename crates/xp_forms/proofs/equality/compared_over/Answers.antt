use Rattle.std.proofs.Common.{codes}
use Rattle.xp_oper.specs.Picked.{picked_operator}
use Rattle.xp_forms.proofs.Comparing.{compared_err, compared_ok}
use Rattle.xp_forms.proofs.equality.compared_over.Goals as goal

pub returns-in-Ok-clause-value : goal.returns-in-Ok-clause-value
returns-in-Ok-clause-value c =
    compared_ok c.args.scene.now c.args.at c.args.operands c.args.inputs.now (picked_operator c.args.scene.now.c (codes "=") c.args.inputs.now) c.in-Ok.row c.compared_at.result
    (rw c.catalog.ensures at (rw c.in-Ok.is at c.pick_operator.ensures.value)) c.compared_at.ensures.value

pub returns-in-Err-clause-value : goal.returns-in-Err-clause-value
returns-in-Err-clause-value c =
    rw c.refusal_of.ensures (compared_err c.args.scene.now c.args.at c.args.operands c.args.inputs.now (picked_operator c.args.scene.now.c (codes "=") c.args.inputs.now) c.in-Err.pick
    (rw c.catalog.ensures at (rw c.in-Err.is at c.pick_operator.ensures.value)))
