use Rattle.xp_parser.proofs.Settled.{parsed_exact, answer_is}
use Rattle.xp_parser.proofs.laws.parsed_is_exact.Goals as goal

pub returns-clause-sound : goal.returns-clause-sound
returns-clause-sound c = parsed_exact

pub returns-clause-complete : goal.returns-clause-complete
returns-clause-complete c = answer_is
