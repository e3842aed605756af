use Rattle.std.proofs.Common.{◌≡◌, false, length}
use Rattle.std.specs.Option.{option_map}
use Rattle.xp_array.specs.Read.{quoted}
use Rattle.xp_array.proofs.Elements.{behind}
use Rattle.xp_array.proofs.reading.quoted.Given as goal

abbrev pub invariant-loop-rest : goal.invariant-loop-rest
invariant-loop-rest l = quoted false l.fn.text ≡ option_map (behind l.bytes) (quoted l.is_plain l.rest)

abbrev pub decreases-loop-rest : goal.decreases-loop-rest
decreases-loop-rest l = length l.rest
