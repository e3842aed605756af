use Rattle.xp_grammar.proofs.Built.{statement_built}
use Rattle.xp_grammar.proofs.laws.derivation_builds_a_statement.Goals as goal

pub returns : goal.returns
returns c = statement_built
