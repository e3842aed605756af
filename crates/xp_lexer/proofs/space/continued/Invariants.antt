use Rattle.std.proofs.Common.{◌≡◌, ◌≤◌, false, length}
use Rattle.xp_lexer.specs.inner.Cutting.{continued}
use Rattle.xp_lexer.proofs.space.continued.Given as goal

abbrev pub invariant-loop-z : goal.invariant-loop-z
invariant-loop-z l = (continued l.has_newline l.z ≡ continued false l.initial.z) × (length l.z ≤ length l.initial.z)

abbrev pub decreases-loop-z : goal.decreases-loop-z
decreases-loop-z l = length l.z
