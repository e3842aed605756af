use Rattle.xp_func.specs.Picked.{picked_function}
use Rattle.xp_func.specs.declared.pick.PickedFunc.TheVariants as picked
use Rattle.xp_resolve.proofs.Picking.{call_err, call_ok}
use Rattle.xp_resolve.proofs.calls.picked.Goals as goal

pub returns-in-Ok-Call-clause-value : goal.returns-in-Ok-Call-clause-value
returns-in-Ok-Call-clause-value c =
    call_ok c.args.scene.now c.args.order c.args.at c.args.before c.args.gathered c.args.inputs.now (picked_function c.args.scene.now.c c.args.name.now c.args.inputs.now c.args.variadic) (picked.Call c.in-Ok-Call.row c.in-Ok-Call.expanded) c.call_picked.result
    (rw (c.catalog.ensures, c.in-Ok-Call.field-0-is) at c.in-Ok-Call.ensures.value) c.call_picked.ensures.value

pub returns-in-Err-clause-value : goal.returns-in-Err-clause-value
returns-in-Err-clause-value c =
    rw c.refusal_of.ensures (call_err c.args.scene.now c.args.order c.args.at c.args.before c.args.gathered c.args.inputs.now (picked_function c.args.scene.now.c c.args.name.now c.args.inputs.now c.args.variadic) c.in-Err.pick
    (rw c.catalog.ensures at c.in-Err.ensures.value))
