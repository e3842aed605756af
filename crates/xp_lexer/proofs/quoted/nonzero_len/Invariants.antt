use Rattle.std.proofs.Common.{◌≡◌, ◌+◌, drop}
use Rattle.xp_lexer.specs.Meaning.{nonzero_len}
use Rattle.xp_lexer.proofs.quoted.nonzero_len.Given as goal

abbrev pub invariant-loop-at : goal.invariant-loop-at
invariant-loop-at l = l.at + nonzero_len (drop l.at l.raw) ≡ nonzero_len l.raw
