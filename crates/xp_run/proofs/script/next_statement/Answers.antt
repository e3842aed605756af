use Rattle.xp_parser.proofs.Ended.{ended_ends}
use Rattle.xp_run.proofs.script.next_statement.Goals as goal

pub analyse_some-requires-clause-ends : goal.analyse_some-requires-clause-ends
analyse_some-requires-clause-ends c = ended_ends c.in-Ok.lexed.tokens c.in-Ok.ensures.ends
