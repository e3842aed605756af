use Rattle.std.proofs.Common.{◌≡◌, ◌≤◌, length}
use Rattle.xp_lexer.specs.inner.Cutting.{line_rest}
use Rattle.xp_lexer.proofs.space.line_rest.Given as goal

abbrev pub invariant-loop-z : goal.invariant-loop-z
invariant-loop-z l = (line_rest l.z ≡ line_rest l.initial.z) × (length l.z ≤ length l.initial.z)

abbrev pub decreases-loop-z : goal.decreases-loop-z
decreases-loop-z l = length l.z
