-- CASE (manual 9.18.1): its arms from left to right, each the condition and then the result, and at last what stands behind ELSE.
use Rattle.std.specs.Prelude.{ℕ, List, [], ◌∷◌, ◌++◌, codes, Option, Some, None, Result, Ok}
use Rattle.xp_base.specs.FromLeft.{and_then}
use Rattle.xp_base.specs.declared.numbers.Span.{Span}
use Rattle.xp_named.specs.declared.refusal.Refusal.{Refusal}
use Rattle.xp_resolve.specs.declared.made.Made.{Made}
use Rattle.xp_resolve.specs.declared.made.Part.{Part}
use Rattle.xp_resolve.specs.declared.made.Progress.{Progress}
use Rattle.xp_resolve.specs.Literals.{null_literal}
use Rattle.xp_resolve.specs.Scene.{Scene}
use Rattle.xp_forms.specs.declared.cases.When.{When}
use Rattle.xp_forms.specs.Cases.{cased}
use Rattle.xp_expressions.specs.declared.branches.ArmMade.{ArmMade}
use Rattle.xp_expressions.specs.declared.branches.ArmsMade.{ArmsMade}
use Rattle.xp_expressions.specs.Operands.{Resolution, each}
use Rattle.xp_expressions.specs.Words.{operator}

-- an arm, with the place of its WHEN
pub record Branch : Type 0 where
  pub at : Span
  pub when : Resolution
  pub gives : Resolution

-- behind CASE without an operand, and with one, which is resolved for each arm
abbrev pub condition : Scene → Option Resolution → Branch → Resolution
condition scene None branch = branch.when
condition scene (Some operand) branch = operator scene branch.at (codes "=") (operand ∷ branch.when ∷ [])

abbrev pub arm_over : Span → Part → Made → ArmMade
arm_over at condition gives = record { when = record { at = at.start; condition = condition; result = gives.part }; progress = gives.progress }

abbrev pub arm : Scene → Option Resolution → Branch → Progress → Result ArmMade Refusal
arm scene operand branch progress =
    and_then (condition scene operand branch progress) (λ (when : Made). and_then (branch.gives when.progress) (λ gives. Ok (arm_over branch.at when.part gives)))

abbrev pub no_arms : Progress → ArmsMade
no_arms progress = record { whens = []; progress = progress }

abbrev pub with_last_arm : List When → ArmMade → ArmsMade
with_last_arm before made = record { whens = before ++ made.when ∷ []; progress = made.progress }

abbrev pub with_arm : Scene → Option Resolution → Branch → ArmsMade → Result ArmsMade Refusal
with_arm scene operand branch before = and_then (arm scene operand branch before.progress) (λ made. Ok (with_last_arm before.whens made))

abbrev pub arms : Scene → Option Resolution → Result ArmsMade Refusal → List Branch → Result ArmsMade Refusal
arms scene operand = each (with_arm scene operand)

-- CASE without ELSE has ELSE NULL
abbrev pub or_null : Scene → Span → Option Resolution → Resolution
or_null scene at None = null_literal scene at.start
or_null scene at (Some otherwise) = otherwise

abbrev pub choice_of : Scene → Span → ℕ → Option Resolution → ArmsMade → Result Made Refusal
choice_of scene at before otherwise all = and_then (or_null scene at otherwise all.progress) (cased scene at.start before all.whens)

abbrev pub choice : Scene → Span → Option Resolution → List Branch → Option Resolution → Resolution
choice scene at operand branches otherwise progress =
    and_then (arms scene operand (Ok (no_arms progress)) branches) (choice_of scene at progress.nodes otherwise)
