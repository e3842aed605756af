use Rattle.xp_lexer.proofs.Spelling.{operator_is_read, name_is_read}
use Rattle.xp_lexer.proofs.laws.operator_names_are_tokens.Goals as goal

pub returns-clause-token : goal.returns-clause-token
returns-clause-token c = operator_is_read

pub returns-clause-named : goal.returns-clause-named
returns-clause-named c = name_is_read
