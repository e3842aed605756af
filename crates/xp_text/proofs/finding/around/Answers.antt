use Rattle.xp_text.proofs.Around.{around_bytes, around_characters, around_place, found_nowhere}
use Rattle.xp_text.proofs.finding.around.Goals as goal

pub returns-in-Some-clause-place : goal.returns-in-Some-clause-place
returns-in-Some-clause-place c = around_place c.args.a.now c.args.part.now c.in-Some.front.now c.in-Some.back.now c.utf8.a c.utf8.part c.in-Some.ensures.cases

pub returns-in-Some-clause-characters : goal.returns-in-Some-clause-characters
returns-in-Some-clause-characters c = around_characters c.args.a.now c.args.part.now c.in-Some.front.now c.in-Some.back.now c.utf8.a c.utf8.part c.in-Some.ensures.cases

pub returns-in-Some-clause-bytes : goal.returns-in-Some-clause-bytes
returns-in-Some-clause-bytes c = around_bytes c.args.a.now c.args.part.now c.in-Some.front.now c.in-Some.back.now c.in-Some.ensures.cases

pub returns-in-None-clause-place : goal.returns-in-None-clause-place
returns-in-None-clause-place c = found_nowhere c.args.a.now c.args.part.now c.utf8.a c.utf8.part c.in-None.ensures.cases
