-- NULLIF and IS [NOT] DISTINCT FROM, which go by the operator `=` (manual 9.2, 9.18.3).
use Rattle.std.specs.Prelude.{ℕ, List, [], ◌∷◌, ◌++◌, Bool, false, cond, codes, slice_get, Result, Ok, Err}
use Rattle.std.specs.Option.{option_map_or}
use Rattle.xp_base.specs.FromLeft.{and_then}
use Rattle.xp_base.specs.declared.codes.Code.TheVariants as code
use Rattle.xp_base.specs.declared.numbers.RowNo.{RowNo}
use Rattle.xp_base.specs.declared.numbers.TypeNo.{TypeNo}
use Rattle.xp_candidates.specs.declared.pick.Pick.{Pick}
use Rattle.xp_catalog.specs.declared.rows.FuncRow.{FuncRow}
use Rattle.xp_catalog.specs.declared.rows.OperRow.{OperRow}
use Rattle.xp_catalog.specs.Contents.{Contents}
use Rattle.xp_catalog.specs.Lookups.{type_named}
use Rattle.xp_oper.specs.Picked.{picked_operator}
use Rattle.xp_types.specs.Readers.{base, is_known, is_same}
use Rattle.xp_tree.specs.Term.{Term, distinct as distinct_node, null_if as null_if_node, two, type_of}
use Rattle.xp_named.specs.declared.refusal.Refusal.{Refusal}
use Rattle.xp_coerce.specs.Types.{node_type}
use Rattle.xp_coerce.specs.Ways.{func_callee}
use Rattle.xp_resolve.specs.declared.choice.Choice.{Choice}
use Rattle.xp_resolve.specs.declared.made.Gathered.{Gathered}
use Rattle.xp_resolve.specs.declared.made.Made.{Made}
use Rattle.xp_resolve.specs.declared.typed.Use.{Use}
use Rattle.xp_resolve.specs.declared.typed.Use.TheVariants as uses
use Rattle.xp_resolve.specs.Calls.{chosen_call, refusal_of, types_of}
use Rattle.xp_resolve.specs.Conversions.{arguments, none_yet}
use Rattle.xp_resolve.specs.Made.{finished, refused}
use Rattle.xp_resolve.specs.Scene.{Scene}
use Rattle.xp_forms.specs.declared.equality.Comparison.{Comparison}
use Rattle.xp_forms.specs.Tests.{with_not}
use Rattle.xp_forms.specs.Truths.{bool_type}

-- values of the type are truth values
abbrev pub is_truth : Contents → TypeNo → Bool
is_truth c type = option_map_or (is_same (base c type)) (type_named c (codes "bool")) false

abbrev pub compared_by : Choice → List Use → Term → Term → FuncRow → Comparison
compared_by choice used left right func = record { callee = func_callee choice.row func; left = left; right = right; uses = used }

-- the operator has to answer a truth value
abbrev pub compared_with : Scene → ℕ → List Use → Choice → List Term → Result Comparison Refusal
compared_with scene at used choice (left ∷ right ∷ []) =
    cond (is_truth scene.c choice.result) (
    option_map_or (λ func. Ok (compared_by choice used left right func)) (slice_get scene.c.funcs choice.row.0) (refused code.Undefined at))
    (refused code.NotBoolean at)
compared_with scene at used choice _ = refused code.Undefined at

-- the operands are converted for the function of the operator
abbrev pub compared_for : Scene → ℕ → Gathered → RowNo → Choice → Result Comparison Refusal
compared_for scene at operands row choice =
    and_then (arguments scene at (none_yet operands.progress.nodes) operands.parts choice.targets) (λ all.
    compared_with scene at (operands.progress.uses ++ uses.Operator row choice.result ∷ []) choice all.trees)

abbrev pub compared_as : Scene → ℕ → Gathered → List TypeNo → RowNo → RowNo → Result Comparison Refusal
compared_as scene at operands inputs row function =
    and_then (chosen_call scene.c at inputs function 0 (slice_get scene.c.funcs function.0)) (compared_for scene at operands row)

abbrev pub compared_at : Scene → ℕ → Gathered → List TypeNo → RowNo → Result Comparison Refusal
compared_at scene at operands inputs row =
    option_map_or (λ (oper : OperRow). compared_as scene at operands inputs row oper.function) (slice_get scene.c.opers row.0) (refused code.Undefined at)

abbrev pub compared_if : Scene → ℕ → Gathered → List TypeNo → Result RowNo Pick → Result Comparison Refusal
compared_if scene at operands inputs (Ok row) = compared_at scene at operands inputs row
compared_if scene at operands inputs (Err pick) = Err (refusal_of pick at)

abbrev pub compared_over : Scene → ℕ → Gathered → List TypeNo → Result Comparison Refusal
compared_over scene at operands inputs = compared_if scene at operands inputs (picked_operator scene.c (codes "=") inputs)

-- what the operator `=` is over the operands, and what they become for it
abbrev pub compared : Scene → ℕ → Gathered → Result Comparison Refusal
compared scene at operands = compared_over scene at operands (types_of operands.parts)

-- ---- NULLIF

abbrev pub null_if_as : Scene → ℕ → ℕ → Comparison → Result Made Refusal
null_if_as scene at before by = finished scene at before by.uses (two (null_if_node by.callee) by.left by.right (type_of by.left))

-- it gives the first operand as the operator takes it; where that has no type it is undefined
abbrev pub null_if_by : Scene → ℕ → ℕ → Comparison → Result Made Refusal
null_if_by scene at before by = cond (is_known (type_of by.left).no) (null_if_as scene at before by) (refused code.Undefined at)

abbrev pub null_if : Scene → ℕ → ℕ → Gathered → Result Made Refusal
null_if scene at before operands = and_then (compared scene at operands) (null_if_by scene at before)

-- ---- IS DISTINCT FROM, and IS NOT DISTINCT FROM, which is NOT over it

abbrev pub distinct_by : Scene → Bool → ℕ → ℕ → TypeNo → Comparison → Result Made Refusal
distinct_by scene negated at before bool by =
    finished scene at before by.uses (with_not negated (node_type scene.c bool) (two (distinct_node by.callee) by.left by.right (node_type scene.c bool)))

abbrev pub distinct : Scene → Bool → ℕ → ℕ → Gathered → Result Made Refusal
distinct scene negated at before operands =
    and_then (bool_type scene.c at) (λ bool. and_then (compared scene at operands) (distinct_by scene negated at before bool))
