-- What a statement answers: refused, described, or evaluated over rows (manual 4.2.14; errors that are raised early come before the rows).
use Rattle.std.specs.Prelude.{ℕ, List, [], ◌∷◌, map, flat_map, Bool, true, false, ◌&&◌, cond, is_none, is_ok, Option, Some, None, Result, Ok, Err}
use Rattle.std.specs.List.{list_all}
use Rattle.xp_base.specs.declared.codes.Code.{Code}
use Rattle.xp_base.specs.declared.codes.EvalError.{EvalError}
use Rattle.xp_base.specs.declared.numbers.TypeNo.{TypeNo}
use Rattle.xp_value.specs.declared.value.Value.{Value}
use Rattle.xp_value.specs.declared.value.Value.TheVariants.{Null}
use Rattle.xp_tree.specs.Term.{Term, terms}
use Rattle.xp_named.specs.declared.refusal.Refusal.{Refusal}
use Rattle.xp_named.specs.declared.refusal.Refusal.TheVariants.{At, Memory}
use Rattle.xp_meaning.specs.Early.{early_all as parts_of_all}
use Rattle.xp_meaning.specs.Meaning.{outcomes}
use Rattle.xp_eval.specs.Real.{first_raised, real}
use Rattle.xp_resolve.specs.declared.typed.Use.{Use}
use Rattle.xp_analyse.specs.declared.typed.Typed.{Typed}
use Rattle.xp_analyse.specs.declared.typed.TypedArm.{TypedArm}

-- an output row: its values, or the first error from the left
abbrev pub OutputRow : Type 0
OutputRow = Result (List Value) EvalError

-- what evaluation comes to: the error that is raised before any row is looked at; the output rows, of which those behind the first that raises aren't looked at; and how many machine steps these take
pub record Evaluation : Type 0 where
  pub early : Option EvalError
  pub rows : List OutputRow
  pub steps : ℕ

pub data Answer : Type 0 where
  Refused : Code → ℕ → Answer
  -- the types of the expressions, and the overloads that are chosen
  Described : List TypeNo → List Use → Answer
  Evaluated : List TypeNo → Evaluation → Answer

-- ---- evaluation

-- the values of the trees at a row, from left to right
abbrev pub output_row : List Term → List Value → OutputRow
output_row trees row = outcomes real row Null (terms trees)

-- an arm gives a row for each row, or one alone
abbrev pub arm_rows : List (List Value) → TypedArm → List OutputRow
arm_rows rows arm = map (output_row arm.trees) (cond arm.over_rows rows ([] ∷ []))

-- arm after arm
abbrev pub output_rows : List (List Value) → List TypedArm → List OutputRow
output_rows rows arms = flat_map (arm_rows rows) arms

-- the parts that may be evaluated early, arm after arm
abbrev pub early_parts : List TypedArm → List Term
early_parts arms = flat_map (λ arm. parts_of_all real (terms arm.trees)) arms

-- no statement is evaluated by machine steps yet
abbrev pub evaluation : List (List Value) → List TypedArm → Evaluation
evaluation rows arms = record { early = first_raised (early_parts arms); rows = output_rows rows arms; steps = 0 }

-- ---- answers

-- whether it is evaluated, or described alone
abbrev pub typed_answer : List (List Value) → Bool → Typed → Answer
typed_answer rows true typed = Evaluated typed.types (evaluation rows typed.arms)
typed_answer rows false typed = Described typed.types typed.uses

-- by what analysis says, which is never out of memory here
abbrev pub said : List (List Value) → Bool → Result Typed Refusal → Option Answer
said rows evaluated (Ok typed) = Some (typed_answer rows evaluated typed)
said rows evaluated (Err (At code at)) = Some (Refused code at)
said rows evaluated (Err Memory) = None

-- nothing was refused, and nothing raised
abbrev pub is_fine : Answer → Bool
is_fine (Refused code at) = false
is_fine (Described types uses) = true
is_fine (Evaluated types it) = is_none it.early && list_all is_ok it.rows

abbrev pub steps_of : Answer → ℕ
steps_of (Refused code at) = 0
steps_of (Described types uses) = 0
steps_of (Evaluated types it) = it.steps
