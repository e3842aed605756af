use Rattle.xp_parser.proofs.Settled.{read_within}
use Rattle.xp_parser.proofs.parsing.parse_words.Goals as goal

pub overflow_sub-words : goal.overflow_sub-words
overflow_sub-words c = read_within c.args.words.now c.in-Err-Syntax.left (rw c.in-Err-Syntax.field-0-is at c.in-Err-Syntax.ensures)
