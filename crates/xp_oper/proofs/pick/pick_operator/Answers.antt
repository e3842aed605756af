use Rattle.xp_candidates.proofs.Made.{Answers-ambiguous}
use Rattle.xp_oper.specs.Picked.{AreLeftOf, chosen_operator}
use Rattle.xp_oper.proofs.Told.{choice-told}
use Rattle.xp_oper.proofs.pick.pick_operator.Goals as goal

pub returns-in-None-clause-ambiguous : goal.returns-in-None-clause-ambiguous
returns-in-None-clause-ambiguous c =
    Answers-ambiguous (chosen_operator c.args.c.now c.args.name.now c.args.inputs.now) c.choose_operator.result (AreLeftOf c.args.c.now c.args.name.now c.args.inputs.now) (choice-told c.args.c.now c.args.name.now c.args.inputs.now) c.choose_operator.ensures.value
