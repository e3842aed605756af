use Rattle.std.proofs.Common.{◌≡◌, ◌+◌, false, length}
use Rattle.xp_lexer.specs.inner.Cutting.{raw_len}
use Rattle.xp_lexer.proofs.quoted.raw_len.Given as goal

abbrev pub invariant-loop-z : goal.invariant-loop-z
invariant-loop-z l = (raw_len l.quote l.is_second l.len l.z ≡ raw_len l.quote false 0 l.initial.z) × (l.len + length l.z ≡ length l.initial.z)

abbrev pub decreases-loop-z : goal.decreases-loop-z
decreases-loop-z l = length l.z
