use Rattle.xp_parser.proofs.Ended.{ended_ends}
use Rattle.xp_analyse.proofs.checks.check_of_text.Goals as goal

pub check_of_tokens-requires-clause-ends : goal.check_of_tokens-requires-clause-ends
check_of_tokens-requires-clause-ends c = ended_ends c.in-Ok.lexed.tokens c.in-Ok.ensures.ends
