use Rattle.std.proofs.Common.{◌≡◌, ◌-◌, ◌^◌, min, take}
use Rattle.std.specs.Prelude.{sum_by}
use Rattle.xp_array.specs.Made.{replaced}
use Rattle.xp_value.specs.Representation.{byte_count}
use Rattle.xp_array.proofs.making.bytes_exchanged.Given as goal

abbrev pub invariant-loop-element : goal.invariant-loop-element
invariant-loop-element l = l.bytes ≡ min (sum_by byte_count (replaced (take l.element-index l.elements) l.old l.new)) (2 ^ 64 - 1)
