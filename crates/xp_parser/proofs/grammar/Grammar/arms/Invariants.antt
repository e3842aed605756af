use Rattle.std.proofs.Common.{◌≡◌, ◌<◌, length}
use Rattle.xp_grammar.specs.inner.Machine.{parse}
use Rattle.xp_grammar.specs.Table.{Level}
use Rattle.xp_parser.specs.inner.Parts.{arm_then}
use Rattle.xp_parser.proofs.grammar.Grammar.arms.Given as goal

abbrev pub invariant-arms : goal.invariant-arms
invariant-arms g l = record { same : parse Level.Arms l.fn.tokens ≡ arm_then l.arms l.word l.tokens; fewer : length l.tokens < l.self.room }

abbrev pub decreases-arms : goal.decreases-arms
decreases-arms g l = length l.tokens
