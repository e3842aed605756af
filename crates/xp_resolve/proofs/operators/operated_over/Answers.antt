use Rattle.xp_oper.specs.Picked.{picked_operator}
use Rattle.xp_resolve.proofs.Picking.{operation_err, operation_ok}
use Rattle.xp_resolve.proofs.operators.operated_over.Goals as goal

pub returns-in-Ok-clause-value : goal.returns-in-Ok-clause-value
returns-in-Ok-clause-value c =
    operation_ok c.args.scene.now c.args.at c.args.before c.args.gathered c.args.inputs.now (picked_operator c.args.scene.now.c c.args.name.now c.args.inputs.now) c.in-Ok.row c.operator_call.result
    (rw c.catalog.ensures at (rw c.in-Ok.is at c.pick_operator.ensures.value)) c.operator_call.ensures.value

pub returns-in-Err-clause-value : goal.returns-in-Err-clause-value
returns-in-Err-clause-value c =
    rw c.refusal_of.ensures (operation_err c.args.scene.now c.args.at c.args.before c.args.gathered c.args.inputs.now (picked_operator c.args.scene.now.c c.args.name.now c.args.inputs.now) c.in-Err.pick
    (rw c.catalog.ensures at (rw c.in-Err.is at c.pick_operator.ensures.value)))
