use Rattle.std.proofs.Common.{ap, length}
use Rattle.xp_candidates.specs.Chosen.{chosen, made_of}
use Rattle.xp_candidates.proofs.Among.{row-among}
use Rattle.xp_candidates.proofs.Made.{Answers-err}
use Rattle.xp_func.specs.declared.pick.PickedFunc.TheVariants.{Call}
use Rattle.xp_func.proofs.pick.choose_call.Goals as goal

pub returns-in_err-picked-clause-value : goal.returns-in_err-picked-clause-value
returns-in_err-picked-clause-value c =
    Answers-err (λ picked. Call picked.row picked.expanded) (chosen c.args.c.now c.args.variadic c.args.inputs.now c.args.candidates.now) c.from_residual.result c.in_err-picked.field-0.0 c.from_residual.ensures.1 c.in_err-picked.ensures.value

pub returns-clause-within : goal.returns-clause-within
returns-clause-within c = row-among (length c.args.c.now.funcs) c.in_ok-picked.picked c.args.candidates.now c.requires.rows c.in_ok-picked.ensures.among

pub returns-clause-value : goal.returns-clause-value
returns-clause-value c = ap (made_of (λ picked. Call picked.row picked.expanded)) c.in_ok-picked.ensures.value
