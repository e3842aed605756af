use Rattle.std.proofs.Common.{◌≡◌, ◌<◌, length}
use Rattle.xp_grammar.specs.inner.Machine.{parse}
use Rattle.xp_grammar.specs.Table.{Level}
use Rattle.xp_parser.specs.inner.StatementParts.{select_then}
use Rattle.xp_parser.proofs.grammar.Grammar.selects.Given as goal

abbrev pub invariant-arms : goal.invariant-arms
invariant-arms g l = record { same : parse Level.Selects l.fn.tokens ≡ select_then l.arms l.word l.tokens; fewer : length l.tokens < l.self.room }

abbrev pub decreases-arms : goal.decreases-arms
decreases-arms g l = length l.tokens
