-- CASE over conditions and results that are resolved (manual 9.18.1, 10.5).
use Rattle.std.specs.Prelude.{ℕ, List, [], ◌∷◌, ◌++◌, map, Result, Ok}
use Rattle.xp_base.specs.FromLeft.{and_then}
use Rattle.xp_base.specs.declared.numbers.TypeNo.{TypeNo}
use Rattle.xp_catalog.specs.declared.rows.Context.TheVariants.{Implicit}
use Rattle.xp_types.specs.Common.{common}
use Rattle.xp_tree.specs.Term.{case}
use Rattle.xp_tree.specs.View.{arms_of}
use Rattle.xp_named.specs.declared.refusal.Refusal.{Refusal}
use Rattle.xp_coerce.specs.Types.{node_type}
use Rattle.xp_resolve.specs.declared.made.Made.{Made}
use Rattle.xp_resolve.specs.declared.made.Part.{Part}
use Rattle.xp_resolve.specs.Calls.{types_of}
use Rattle.xp_resolve.specs.Conversions.{converted, plainly, text_type}
use Rattle.xp_resolve.specs.Made.{finished}
use Rattle.xp_resolve.specs.Scene.{Scene}
use Rattle.xp_forms.specs.declared.cases.ArmsMade.{ArmsMade}
use Rattle.xp_forms.specs.declared.cases.When.{When}
use Rattle.xp_forms.specs.Common.{decided}
use Rattle.xp_forms.specs.Truths.{as_truth, bool_type}

-- the inputs of the common type: the result behind ELSE is the first
abbrev pub result_types : List When → Part → List TypeNo
result_types whens otherwise = types_of (otherwise ∷ map (λ (when : When). when.result) whens)

-- the place of the first WHEN
abbrev pub first_when : ℕ → List When → ℕ
first_when at [] = at
first_when at (when ∷ whens) = when.at

abbrev pub no_arms : ℕ → ArmsMade
no_arms nodes = record { arms = []; nodes = nodes }

-- the condition as a truth value, and then the result as one of the common type
abbrev pub arm_made : Scene → ℕ → TypeNo → TypeNo → ArmsMade → When → Result ArmsMade Refusal
arm_made scene at bool type before when =
    and_then (as_truth scene when.at before.nodes bool when.condition) (λ condition.
    and_then (converted scene at condition.nodes when.result (plainly type) Implicit) (λ gives.
    Ok (record { arms = before.arms ++ record { condition = condition.tree; result = gives.tree } ∷ []; nodes = gives.nodes })))

-- from left to right, behind those that are made
abbrev pub arms_made : Scene → ℕ → TypeNo → TypeNo → ArmsMade → List When → Result ArmsMade Refusal
arms_made scene at bool type before [] = Ok before
arms_made scene at bool type before (when ∷ whens) = and_then (arm_made scene at bool type before when) (λ next. arms_made scene at bool type next whens)

abbrev pub cased_over : Scene → ℕ → ℕ → List When → Made → List TypeNo → Result Made Refusal
cased_over scene at before whens otherwise inputs =
    and_then (text_type scene.c at) (λ text.
    and_then (bool_type scene.c (first_when at whens)) (λ bool.
    and_then (decided at (common scene.c inputs)) (λ type.
    and_then (arms_made scene at bool type (no_arms otherwise.progress.nodes) whens) (λ all.
    and_then (converted scene at all.nodes otherwise.part (plainly type) Implicit) (λ last.
    finished scene at before otherwise.progress.uses (case (arms_of all.arms) last.tree (node_type scene.c type)))))))

-- CASE: its arms in their order, and then the result behind ELSE
abbrev pub cased : Scene → ℕ → ℕ → List When → Made → Result Made Refusal
cased scene at before whens otherwise = cased_over scene at before whens otherwise (result_types whens otherwise.part)
