use Rattle.xp_analyse.proofs.Preparing.{none_before, truths_more}
use Rattle.xp_analyse.proofs.checks.with_check.Goals as goal

pub add-requires : goal.add-requires
add-requires c = none_before c.args.number c.args.before c.requires.below

pub returns-in_ok-add-in-Some-clause-truths : goal.returns-in_ok-add-in-Some-clause-truths
returns-in_ok-add-in-Some-clause-truths c =
    rw c.in_ok-add-in-Some.ensures (truths_more c.args.number c.args.before c.in-Some.check c.requires.before (rw c.in-Some.is at c.in_ok-check.ensures.truth))
