use Rattle.xp_grammar.proofs.Exact.{derived_is_read, err_is_fault, one_statement, read_is_derived}
use Rattle.xp_grammar.proofs.laws.grammar_has_one_reading.Goals as goal

pub returns-clause-one : goal.returns-clause-one
returns-clause-one c = one_statement

pub returns-clause-sound : goal.returns-clause-sound
returns-clause-sound c = read_is_derived

pub returns-clause-complete : goal.returns-clause-complete
returns-clause-complete c = derived_is_read

pub returns-clause-fault : goal.returns-clause-fault
returns-clause-fault c = err_is_fault
