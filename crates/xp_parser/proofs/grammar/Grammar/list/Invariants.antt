use Rattle.std.proofs.Common.{◌≡◌, ◌<◌, length}
use Rattle.xp_grammar.specs.inner.Machine.{parse, more}
use Rattle.xp_grammar.specs.Table.{Level, Trees}
use Rattle.xp_parser.proofs.grammar.Grammar.list.Given as goal

abbrev pub invariant-commas : goal.invariant-commas
invariant-commas g l = record { same : parse Level.Shown l.fn.tokens ≡ more Level.Shown (Trees l.found) l.tokens; fewer : length l.tokens < length l.fn.tokens }

abbrev pub decreases-commas : goal.decreases-commas
decreases-commas g l = length l.tokens
