-- Operators: the record that is chosen, and the operands that are converted for its function (manual 4.2.5, 10.2).
use Rattle.std.specs.Prelude.{ℕ, List, slice_get, Result, Ok, Err}
use Rattle.std.specs.Option.{option_map_or}
use Rattle.xp_base.specs.FromLeft.{and_then}
use Rattle.xp_base.specs.declared.codes.Code.TheVariants as code
use Rattle.xp_base.specs.declared.numbers.RowNo.{RowNo}
use Rattle.xp_base.specs.declared.numbers.TypeNo.{TypeNo}
use Rattle.xp_candidates.specs.declared.pick.Pick.{Pick}
use Rattle.xp_catalog.specs.declared.rows.OperRow.{OperRow}
use Rattle.xp_oper.specs.Picked.{picked_operator}
use Rattle.xp_named.specs.declared.refusal.Refusal.{Refusal}
use Rattle.xp_resolve.specs.declared.order.Order.TheVariants.{AsWritten}
use Rattle.xp_resolve.specs.declared.made.Gathered.{Gathered}
use Rattle.xp_resolve.specs.declared.made.Made.{Made}
use Rattle.xp_resolve.specs.declared.typed.Use.TheVariants as uses
use Rattle.xp_resolve.specs.Calls.{choice_made, chosen_call, refusal_of, types_of}
use Rattle.xp_resolve.specs.Made.{refused}
use Rattle.xp_resolve.specs.Scene.{Scene}

-- an operator is a call of its function, whose arguments are the operator's operands
abbrev pub function_call : Scene → ℕ → ℕ → Gathered → List TypeNo → RowNo → RowNo → Result Made Refusal
function_call scene at before gathered inputs row function =
    and_then (chosen_call scene.c at inputs function 0 (slice_get scene.c.funcs function.0)) (λ choice. choice_made scene AsWritten at before gathered (uses.Operator row choice.result) choice)

abbrev pub operator_call : Scene → ℕ → ℕ → Gathered → List TypeNo → RowNo → Result Made Refusal
operator_call scene at before gathered inputs row =
    option_map_or (λ (oper : OperRow). function_call scene at before gathered inputs row oper.function) (slice_get scene.c.opers row.0) (refused code.Undefined at)

abbrev pub picked_operation : Scene → ℕ → ℕ → Gathered → List TypeNo → Result RowNo Pick → Result Made Refusal
picked_operation scene at before gathered inputs (Ok row) = operator_call scene at before gathered inputs row
picked_operation scene at before gathered inputs (Err pick) = Err (refusal_of pick at)

abbrev pub operated_over : Scene → ℕ → List ℕ → ℕ → Gathered → List TypeNo → Result Made Refusal
operated_over scene at name before gathered inputs = picked_operation scene at before gathered inputs (picked_operator scene.c name inputs)

-- the operator of that name over one operand, or over left and right
abbrev pub operated : Scene → ℕ → List ℕ → ℕ → Gathered → Result Made Refusal
operated scene at name before gathered = operated_over scene at name before gathered (types_of gathered.parts)
