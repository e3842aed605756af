use Rattle.std.proofs.Common.{◌≡◌, drop}
use Rattle.xp_meaning.specs.Truth.{has_null}
use Rattle.xp_eval.proofs.columns.has_null.Given as goal

abbrev pub invariant-loop-value : goal.invariant-loop-value
invariant-loop-value l = has_null (drop l.value-index l.values) ≡ has_null l.values
