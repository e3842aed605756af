-- What the program keeps of a statement that was analysed.
use Rattle.std.specs.Prelude.{◌≡◌, List, true, false, Option, Some, None}
use Rattle.std.specs.List.{All}
use Rattle.xp_value.specs.declared.value.Value.{Value}
use Rattle.xp_call.specs.Calls.{is_built}
use Rattle.xp_meaning.specs.Evaluable.{all_evaluable}
use Rattle.xp_tree.specs.Term.{terms}
use Rattle.xp_analyse.specs.declared.typed.TypedArm.{TypedArm}
use Rattle.xp_run.specs.Answer.{Answer, typed_answer}
use Rattle.xp_run.specs.Answer as answer
use Rattle.xp_run.specs.declared.analysis.Analysis.{Analysis}
use Rattle.xp_run.specs.declared.analysis.Analysis.TheVariants.{Refused, Described, Evaluated}

abbrev pub answer_of : List (List Value) → Analysis → Answer
answer_of rows (Refused code at) = answer.Refused code at
answer_of rows (Described typed) = typed_answer rows false typed
answer_of rows (Evaluated typed) = typed_answer rows true typed

-- the trees of the arms can be evaluated
abbrev pub AreReady : List TypedArm → Type 0
AreReady arms = All (λ arm. all_evaluable is_built (terms arm.trees) ≡ true) arms

-- so can those that are to be
abbrev pub IsReady : Analysis → Type 0
IsReady (Evaluated typed) = AreReady typed.arms
IsReady _ = Unit {0}

abbrev pub AreReadied : Option Analysis → Type 0
AreReadied None = Unit {0}
AreReadied (Some analysis) = IsReady analysis
