use Rattle.std.proofs.Common.{◌≡◌, length}
use Rattle.xp_io.specs.inner.Digits.{read}
use Rattle.xp_io.proofs.integers.digits.Given as goal

abbrev pub invariant-loop-text : goal.invariant-loop-text
invariant-loop-text l = read l.base l.value l.text ≡ read l.base 0 l.fn.text

abbrev pub decreases-loop-text : goal.decreases-loop-text
decreases-loop-text l = length l.text
