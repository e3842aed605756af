use Rattle.std.proofs.Common.{◌≡◌, length}
use Rattle.xp_io.specs.Space.{trimmed_end}
use Rattle.xp_io.proofs.space.trimmed_end.Given as goal

abbrev pub invariant-loop-text : goal.invariant-loop-text
invariant-loop-text l = trimmed_end l.text ≡ trimmed_end l.fn.text

abbrev pub decreases-loop-text : goal.decreases-loop-text
decreases-loop-text l = length l.text
