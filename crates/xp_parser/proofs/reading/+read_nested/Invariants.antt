use Rattle.std.proofs.Common.{length}
use Rattle.xp_parser.proofs.reading.+read_nested.Given as goal

abbrev pub decreases-read_nested : goal.decreases-read_nested
decreases-read_nested l = length l.tokens.now
