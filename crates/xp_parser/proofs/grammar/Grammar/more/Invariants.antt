use Rattle.std.proofs.Common.{◌≡◌, ◌≤◌, length}
use Rattle.xp_grammar.specs.inner.Machine.{more}
use Rattle.xp_grammar.specs.Table.{Tree}
use Rattle.xp_parser.specs.inner.Parts.{chain_level}
use Rattle.xp_parser.proofs.grammar.Grammar.more.Given as goal

abbrev pub invariant-operands : goal.invariant-operands
invariant-operands g l = record { same : more (chain_level l.chain) (Tree l.fn.first) l.fn.tokens ≡ more (chain_level l.chain) (Tree l.left) l.tokens; fewer : length l.tokens ≤ l.self.room }

abbrev pub decreases-operands : goal.decreases-operands
decreases-operands g l = length l.tokens
