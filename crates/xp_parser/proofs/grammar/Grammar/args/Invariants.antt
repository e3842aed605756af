use Rattle.std.proofs.Common.{◌≡◌, ◌<◌, length}
use Rattle.xp_grammar.specs.inner.Machine.{parse}
use Rattle.xp_grammar.specs.Table.{Level}
use Rattle.xp_parser.specs.inner.Parts.{args_part}
use Rattle.xp_parser.proofs.grammar.Grammar.args.Given as goal

abbrev pub invariant-commas : goal.invariant-commas
invariant-commas g l = record { same : parse Level.Args l.fn.tokens ≡ args_part l.args l.tokens; fewer : length l.tokens < l.self.room }

abbrev pub decreases-commas : goal.decreases-commas
decreases-commas g l = length l.tokens
