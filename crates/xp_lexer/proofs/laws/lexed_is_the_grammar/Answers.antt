use Rattle.xp_lexer.proofs.Answering.{lexed_exact, lexed_remembers}
use Rattle.xp_lexer.proofs.laws.lexed_is_the_grammar.Goals as goal

pub returns-clause-exact : goal.returns-clause-exact
returns-clause-exact c = lexed_exact

pub returns-clause-no_memory : goal.returns-clause-no_memory
returns-clause-no_memory c = lexed_remembers
