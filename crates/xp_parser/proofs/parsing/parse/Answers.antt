use Rattle.xp_parser.proofs.Formed.{formed_of}
use Rattle.xp_parser.proofs.Settled.{right_of, only_of}
use Rattle.xp_parser.proofs.parsing.parse.Goals as goal

pub returns-clause-right : goal.returns-clause-right
returns-clause-right c = right_of c.args.tokens.now c.answer.result (rw c.as_slice.ensures at c.answer.ensures)

pub returns-clause-only : goal.returns-clause-only
returns-clause-only c = only_of c.args.tokens.now c.answer.result (rw c.as_slice.ensures at c.answer.ensures)

pub returns-clause-formed : goal.returns-clause-formed
returns-clause-formed c = formed_of c.args.tokens.now c.answer.result (rw c.as_slice.ensures at c.answer.ensures)
