use Rattle.std.proofs.Common.{◌≡◌, false, length}
use Rattle.xp_array.specs.Read.{unquoted}
use Rattle.xp_array.proofs.Elements.{behind}
use Rattle.xp_array.proofs.reading.unquoted.Given as goal

abbrev pub invariant-loop-word : goal.invariant-loop-word
invariant-loop-word l = unquoted false l.fn.text ≡ behind l.bytes (unquoted false l.rest)

abbrev pub decreases-loop-word : goal.decreases-loop-word
decreases-loop-word l = length l.rest
