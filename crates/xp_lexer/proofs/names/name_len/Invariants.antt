use Rattle.std.proofs.Common.{◌≡◌, ◌+◌, drop}
use Rattle.xp_lexer.specs.inner.Cutting.{name_len}
use Rattle.xp_lexer.proofs.names.name_len.Given as goal

abbrev pub invariant-loop-at : goal.invariant-loop-at
invariant-loop-at l = l.at + name_len (drop l.at l.z) ≡ name_len l.z
