use Rattle.std.proofs.Common.{◌≡◌, ◌^◌, ◌≤◌, length}
use Rattle.xp_numeric.specs.inner.Reading.{digits_from}
use Rattle.xp_numeric.proofs.reading.digits.Given as goal

abbrev pub invariant-loop-z : goal.invariant-loop-z
invariant-loop-z l = record {
  same : digits_from l.value l.z ≡ digits_from l.fn.value l.fn.z;
  capped : l.value ≤ 10 ^ 38;
}

abbrev pub decreases-loop-z : goal.decreases-loop-z
decreases-loop-z l = length l.z
