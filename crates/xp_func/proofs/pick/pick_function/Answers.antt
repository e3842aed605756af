use Rattle.std.proofs.Common.{◌∙◌, subst}
use Rattle.xp_candidates.specs.Chosen.{Answers}
use Rattle.xp_candidates.proofs.Made.{Answers-ambiguous}
use Rattle.xp_func.specs.Picked.{AreLeftOf, picked_among, picked_function}
use Rattle.xp_func.proofs.Told.{picked-told}
use Rattle.xp_func.proofs.pick.pick_function.Goals as goal

pub returns-clause-value : goal.returns-clause-value
returns-clause-value c =
    subst (λ candidates. Answers (picked_among c.args.c.now c.args.name.now c.args.inputs.now c.args.variadic candidates) c.pick_among.result) (c.deref.ensures.value ∙ c.in_ok-candidates.ensures.value) c.pick_among.ensures.value

pub returns-clause-ambiguous : goal.returns-clause-ambiguous
returns-clause-ambiguous c =
    Answers-ambiguous (picked_function c.args.c.now c.args.name.now c.args.inputs.now c.args.variadic) c.pick_among.result (AreLeftOf c.args.c.now c.args.name.now c.args.inputs.now c.args.variadic) (picked-told c.args.c.now c.args.name.now c.args.inputs.now c.args.variadic)
    (subst (λ candidates. Answers (picked_among c.args.c.now c.args.name.now c.args.inputs.now c.args.variadic candidates) c.pick_among.result) (c.deref.ensures.value ∙ c.in_ok-candidates.ensures.value) c.pick_among.ensures.value)
