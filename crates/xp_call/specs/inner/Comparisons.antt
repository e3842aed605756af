-- The comparison at a place among the six.
use Rattle.std.specs.Prelude.{ℕ, ◌==◌, cond}
use Rattle.xp_call.specs.declared.operations.Comparison.{Comparison}
use Rattle.xp_call.specs.declared.operations.Comparison.TheVariants as comparison

abbrev pub comparison_word : ℕ → Comparison
comparison_word place =
    cond (place == 0) comparison.Equal (
    cond (place == 1) comparison.NotEqual (
    cond (place == 2) comparison.Less (
    cond (place == 3) comparison.AtMost (
    cond (place == 4) comparison.Greater comparison.AtLeast))))
