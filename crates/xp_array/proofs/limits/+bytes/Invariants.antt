use Rattle.std.proofs.Common.{◌≡◌, ◌-◌, ◌^◌, min, take}
use Rattle.std.specs.Prelude.{sum_by}
use Rattle.xp_value.specs.Representation.{byte_count}
use Rattle.xp_array.proofs.limits.+bytes.Given as goal

abbrev pub invariant-bytes_of_all-loop-value : goal.invariant-bytes_of_all-loop-value
invariant-bytes_of_all-loop-value l = l.bytes ≡ min (sum_by byte_count (take l.value-index l.values)) (2 ^ 64 - 1)
