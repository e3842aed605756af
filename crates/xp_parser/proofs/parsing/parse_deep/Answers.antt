use Rattle.std.proofs.Common.{arith}
use Rattle.xp_parser.proofs.Settled.{read_within}
use Rattle.xp_parser.proofs.parsing.parse_deep.Goals as goal

pub fault_within-requires : goal.fault_within-requires
fault_within-requires c = omega (arith, read_within c.args.words.now c.in-Err-Syntax.left (rw c.in-Err-Syntax.field-0-is at c.in-Err-Syntax.ensures), c.requires)
