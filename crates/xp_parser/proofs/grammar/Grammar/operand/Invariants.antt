use Rattle.std.proofs.Common.{◌≡◌, ◌<◌, length}
use Rattle.xp_grammar.specs.inner.Machine.{parse, more}
use Rattle.xp_grammar.specs.Table.{Level}
use Rattle.xp_parser.specs.inner.Parts.{operand as read_operand}
use Rattle.xp_parser.proofs.grammar.Grammar.operand.Given as goal

abbrev pub invariant-turns : goal.invariant-turns
invariant-turns g l = record { same : parse Level.E11 l.fn.tokens ≡ more Level.E11 (read_operand l.operand) l.tokens; fewer : length l.tokens < l.self.room }

abbrev pub decreases-turns : goal.decreases-turns
decreases-turns g l = length l.tokens
