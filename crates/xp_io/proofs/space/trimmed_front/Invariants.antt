use Rattle.std.proofs.Common.{◌≡◌, length}
use Rattle.xp_io.specs.Space.{trimmed_front}
use Rattle.xp_io.proofs.space.trimmed_front.Given as goal

abbrev pub invariant-loop-text : goal.invariant-loop-text
invariant-loop-text l = trimmed_front l.text ≡ trimmed_front l.fn.text

abbrev pub decreases-loop-text : goal.decreases-loop-text
decreases-loop-text l = length l.text
