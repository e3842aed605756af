use Rattle.xp_lexer.proofs.Quotes.{clean_all}
use Rattle.xp_lexer.proofs.quoted.clean_len.Goals as goal

pub returns-in-Ok-clause-value : goal.returns-in-Ok-clause-value
returns-in-Ok-clause-value c = clean_all c.args.raw.now c.nonzero_len-len.result c.nonzero_len-len.ensures.value c.in-Ok.ensures.cases.1
