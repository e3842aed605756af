use Rattle.std.proofs.Common.{◌≡◌, ◌+◌, ◌≤◌, false, length}
use Rattle.xp_lexer.specs.inner.Cutting.{comment_rest}
use Rattle.xp_lexer.proofs.space.comment_rest.Given as goal

abbrev pub invariant-loop-z : goal.invariant-loop-z
invariant-loop-z l = record {
  same : comment_rest l.depth l.is_second l.z ≡ comment_rest 1 false l.initial.z;
  within : l.depth + length l.z ≤ length l.initial.z + 1;
  open_ : l.is_second ≡ false → 1 ≤ l.depth;
}

abbrev pub decreases-loop-z : goal.decreases-loop-z
decreases-loop-z l = length l.z
