use Rattle.std.proofs.Common.{◌≡◌, length}
use Rattle.xp_grammar.specs.inner.Machine.{parse, more}
use Rattle.xp_grammar.specs.Table.{Level, Named}
use Rattle.xp_parser.proofs.types.full.Given as goal

abbrev pub invariant-pairs : goal.invariant-pairs
invariant-pairs l = parse Level.Full l.fn.tokens ≡ more Level.Full (Named l.words) l.tokens

abbrev pub decreases-pairs : goal.decreases-pairs
decreases-pairs l = length l.tokens
