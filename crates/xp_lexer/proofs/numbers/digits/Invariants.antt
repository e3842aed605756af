use Rattle.std.proofs.Common.{◌≡◌, ◌+◌, ◌^◌, ◌≤◌, length}
use Rattle.xp_lexer.specs.inner.Cutting.{digits}
use Rattle.xp_lexer.proofs.numbers.digits.Given as goal

abbrev pub invariant-loop-z : goal.invariant-loop-z
invariant-loop-z l = record {
  same : digits l.base l.value l.count l.z ≡ digits l.base l.fn.value 0 l.fn.z;
  capped : l.value ≤ 10 ^ 38;
  within : length l.z + l.count ≤ length l.fn.z;
}

abbrev pub decreases-loop-z : goal.decreases-loop-z
decreases-loop-z l = length l.z
