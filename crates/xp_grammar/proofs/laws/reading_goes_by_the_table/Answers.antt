use Rattle.xp_grammar.proofs.Tries.{trie_is, tails_is, first_is}
use Rattle.xp_grammar.proofs.laws.reading_goes_by_the_table.Goals as goal

pub returns-clause-lines : goal.returns-clause-lines
returns-clause-lines c = trie_is

pub returns-clause-turns : goal.returns-clause-turns
returns-clause-turns c = tails_is

pub returns-clause-firsts : goal.returns-clause-firsts
returns-clause-firsts c = first_is
