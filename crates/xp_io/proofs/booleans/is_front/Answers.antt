use Rattle.xp_io.proofs.Fronts.{fronts}
use Rattle.xp_io.proofs.booleans.is_front.Goals as goal

pub returns-then-word-name : goal.returns-then-word-name
returns-then-word-name c = fronts c.args.least c.args.name.now c.args.word.now c.eq_ignore_ascii_case.result c.if-word-name.true.0 c.if-word-name.true.1 c.eq_ignore_ascii_case.ensures.test
