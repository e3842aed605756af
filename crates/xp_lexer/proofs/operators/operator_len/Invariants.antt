use Rattle.std.proofs.Common.{◌≡◌, ◌+◌, ◌≤◌, true, false, max, length}
use Rattle.xp_lexer.specs.inner.Cutting.{operator_len}
use Rattle.xp_lexer.proofs.operators.operator_len.Given as goal

abbrev pub invariant-loop-z : goal.invariant-loop-z
invariant-loop-z l = record {
  same : operator_len l.len l.kept l.has_special l.z ≡ operator_len 0 1 false l.initial.z;
  counted : l.len + length l.z ≡ length l.initial.z;
  some : 1 ≤ l.kept;
  kept : l.kept ≤ max 1 l.len;
  free : l.has_special ≡ true → 1 ≤ l.len;
}

abbrev pub decreases-loop-z : goal.decreases-loop-z
decreases-loop-z l = length l.z
