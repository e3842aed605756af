use Rattle.std.proofs.Common.{subst}
use Rattle.xp_candidates.specs.Chosen.{Answers}
use Rattle.xp_candidates.specs.declared.marked.Marked.TheVariants.{Nothing}
use Rattle.xp_func.specs.Picked.{chosen_call, request_or}
use Rattle.xp_func.specs.Request.{cast_request}
use Rattle.xp_func.proofs.ExactAt.{exact_is, exact_one, exact_two}
use Rattle.xp_func.proofs.pick.pick_among.Goals as goal

pub returns-in-Nothing-clause-value : goal.returns-in-Nothing-clause-value
returns-in-Nothing-clause-value c =
    let choice = request_or (cast_request c.args.c.now c.args.name.now c.args.inputs.now c.args.variadic) (chosen_call c.args.c.now c.args.variadic c.args.inputs.now c.args.candidates.now) in
    subst (λ said. Answers said c.request_or_choose.result) (exact_is c.args.inputs.now c.args.candidates.now c.in_ok-marked.marked Nothing choice c.in_ok-marked.ensures.value c.in-Nothing.is) c.request_or_choose.ensures.value

pub returns-in-One-clause-value : goal.returns-in-One-clause-value
returns-in-One-clause-value c =
    let choice = request_or (cast_request c.args.c.now c.args.name.now c.args.inputs.now c.args.variadic) (chosen_call c.args.c.now c.args.variadic c.args.inputs.now c.args.candidates.now) in
    exact_one c.args.inputs.now c.args.candidates.now c.in_ok-marked.marked c.in-One.place choice _ _ c.in_ok-marked.ensures.value c.in-One.is c.in_ok-marked.ensures.within

pub returns-in-Several-clause-value : goal.returns-in-Several-clause-value
returns-in-Several-clause-value c =
    let choice = request_or (cast_request c.args.c.now c.args.name.now c.args.inputs.now c.args.variadic) (chosen_call c.args.c.now c.args.variadic c.args.inputs.now c.args.candidates.now) in
    exact_two c.args.inputs.now c.args.candidates.now c.in_ok-marked.marked c.in-Several.first c.in-Several.second choice _ _ c.in_ok-marked.ensures.value c.in-Several.is c.in_ok-marked.ensures.within
