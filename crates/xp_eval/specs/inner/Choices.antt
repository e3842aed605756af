-- Which of two values wins, and what is asked of the value of a constant tree.
use Rattle.std.specs.Prelude.{Bool, true, false, not}
use Rattle.std.specs.declared.cmp.Ordering.{Ordering}
use Rattle.std.specs.Ordering.{is_gt, is_lt}
use Rattle.xp_value.specs.Null.{is_null}
use Rattle.xp_value.specs.declared.value.Value.{Value}
use Rattle.xp_meaning.specs.Truth.{is_false, is_true}
use Rattle.xp_eval.specs.declared.settled.Test.{Test}
use Rattle.xp_eval.specs.declared.settled.Test.TheVariants as test

abbrev pub wins : Bool → Ordering → Bool
wins true = is_gt
wins false = is_lt

abbrev pub holds : Test → Value → Bool
holds test.IsFalse = is_false
holds test.IsTrue = is_true
holds test.IsntTrue = λ v. not (is_true v)
holds test.IsntNull = λ v. not (is_null v)
