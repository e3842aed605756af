use Rattle.xp_lexer.proofs.Answering.{right_of, only_of}
use Rattle.xp_lexer.proofs.Ending.{ended_of, of_ok}
use Rattle.xp_lexer.proofs.lexing.lex.Goals as goal

pub returns-clause-right : goal.returns-clause-right
returns-clause-right c = right_of c.args.text.now c.args.from c.answer.result c.requires.fits c.answer.ensures

pub returns-clause-only : goal.returns-clause-only
returns-clause-only c = only_of c.args.text.now c.args.from c.answer.result c.requires.fits c.answer.ensures

pub returns-clause-ends : goal.returns-clause-ends
returns-clause-ends c = of_ok c.answer.result (λ l h. h.0) (ended_of c.args.text.now c.args.from c.answer.result c.requires.fits c.requires.within c.answer.ensures)

pub returns-clause-plain : goal.returns-clause-plain
returns-clause-plain c = of_ok c.answer.result (λ l h. h.1) (ended_of c.args.text.now c.args.from c.answer.result c.requires.fits c.requires.within c.answer.ensures)

pub returns-clause-within : goal.returns-clause-within
returns-clause-within c = of_ok c.answer.result (λ l h. h.2) (ended_of c.args.text.now c.args.from c.answer.result c.requires.fits c.requires.within c.answer.ensures)

pub returns-clause-behind : goal.returns-clause-behind
returns-clause-behind c = of_ok c.answer.result (λ l h. h.3) (ended_of c.args.text.now c.args.from c.answer.result c.requires.fits c.requires.within c.answer.ensures)
