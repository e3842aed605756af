use Rattle.std.proofs.Common.{◌≡◌, ◌<◌, length}
use Rattle.xp_grammar.specs.inner.Machine.{parse, more}
use Rattle.xp_grammar.specs.Table.{Level, Labels}
use Rattle.xp_parser.proofs.grammar.Grammar.items.Given as goal

abbrev pub invariant-commas : goal.invariant-commas
invariant-commas g l = record { same : parse Level.Items l.fn.tokens ≡ more Level.Items (Labels l.found) l.tokens; fewer : length l.tokens < l.self.room }

abbrev pub decreases-commas : goal.decreases-commas
decreases-commas g l = length l.tokens
