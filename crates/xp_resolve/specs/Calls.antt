-- Calls: the record that is chosen, what it is bound to, and the arguments that are converted for it (manual 4.2.6, 10.3).
use Rattle.std.specs.Prelude.{ℕ, ◌-◌, ◌==◌, List, [], ◌∷◌, ◌++◌, Bool, cond, drop, length, map, nat_lt, slice_get, take, zip, Option, Some, None, option_and_then, option_map, Result, Ok, Err}
use Rattle.std.specs.Option.{option_map_or}
use Rattle.xp_base.specs.FromLeft.{and_then}
use Rattle.xp_base.specs.declared.codes.Code.TheVariants as code
use Rattle.xp_base.specs.declared.limits.TheConstants.{ARGUMENT_LIMIT}
use Rattle.xp_base.specs.declared.numbers.RowNo.{RowNo}
use Rattle.xp_base.specs.declared.numbers.TypeNo.{TypeNo}
use Rattle.xp_catalog.specs.declared.rows.Context.TheVariants.{Explicit}
use Rattle.xp_catalog.specs.declared.rows.FuncRow.{FuncRow}
use Rattle.xp_catalog.specs.Contents.{Contents}
use Rattle.xp_catalog.specs.Rules.{last_of}
use Rattle.xp_types.specs.Readers.{is_known}
use Rattle.xp_poly.specs.Bound.{bound, concrete_types}
use Rattle.xp_poly.specs.declared.bound.Binding.{Binding}
use Rattle.xp_poly.specs.declared.bound.Binding.TheVariants.{Concrete, Indeterminate}
use Rattle.xp_candidates.specs.declared.candidate.Candidate.{Candidate}
use Rattle.xp_candidates.specs.declared.pick.Pick.{Pick}
use Rattle.xp_candidates.specs.declared.pick.Pick.TheVariants.{Undefined, Ambiguous, Memory}
use Rattle.xp_func.specs.Candidates.{expansion, unexpanded_of}
use Rattle.xp_func.specs.Picked.{picked_function}
use Rattle.xp_func.specs.declared.pick.PickedFunc.{PickedFunc}
use Rattle.xp_func.specs.declared.pick.PickedFunc.TheVariants as picked
use Rattle.xp_tree.specs.Term.{Term, array, call, many, terms, type_of}
use Rattle.xp_named.specs.declared.refusal.Refusal.{Refusal}
use Rattle.xp_named.specs.declared.refusal.Refusal.TheVariants as refusal
use Rattle.xp_coerce.specs.Types.{node_type}
use Rattle.xp_coerce.specs.Ways.{func_callee}
use Rattle.xp_resolve.specs.declared.choice.Choice.{Choice}
use Rattle.xp_resolve.specs.declared.order.Order.{Order}
use Rattle.xp_resolve.specs.declared.made.Gathered.{Gathered}
use Rattle.xp_resolve.specs.declared.made.Made.{Made}
use Rattle.xp_resolve.specs.declared.made.Part.{Part}
use Rattle.xp_resolve.specs.declared.made.Progress.{Progress}
use Rattle.xp_resolve.specs.declared.targets.Target.{Target}
use Rattle.xp_resolve.specs.declared.typed.Use.{Use}
use Rattle.xp_resolve.specs.declared.typed.Use.TheVariants as uses
use Rattle.xp_resolve.specs.Conversions.{arguments, converted, none_yet, plainly}
use Rattle.xp_resolve.specs.Made.{finished, refused}
use Rattle.xp_resolve.specs.Nodes.{taking_of}
use Rattle.xp_resolve.specs.Order.{in_order}
use Rattle.xp_resolve.specs.Scene.{Scene}
use Rattle.xp_resolve.specs.Targets.{spread_type, targets_of}

-- ---- the nodes

-- the last trees as one array
abbrev pub spread : Contents → TypeNo → ℕ → List Term → List Term
spread c array_type extra trees = take (length trees - extra) trees ++ many array (terms (drop (length trees - extra) trees)) (node_type c array_type) ∷ []

-- the arguments of the record, of which a variadic one takes so many as one array
abbrev pub gathered_args : Contents → FuncRow → ℕ → List Target → List Term → Option (List Term)
gathered_args c func extra targets trees =
    cond (extra == 0) (Some trees) (
    option_and_then (λ declared. option_and_then (λ each. option_map (λ array_type. spread c array_type extra trees) (spread_type c declared each)) (slice_get targets (length targets - 1))) (last_of func.args))

abbrev pub call_node : Contents → RowNo → TypeNo → List Term → Option Term
call_node c row result args = option_map (λ func. many (call (func_callee row func)) (terms args) (node_type c result)) (slice_get c.funcs row.0)

-- the call, with its use behind those before it
abbrev pub call_made : Scene → ℕ → ℕ → List Use → Choice → Option (List Term) → Result Made Refusal
call_made scene at before used choice args =
    option_map_or (finished scene at before used) (option_and_then (call_node scene.c choice.row choice.result) args) (refused code.Undefined at)

-- ---- the functions of a name

-- the parameters that so many arguments stand at
abbrev pub parameters : Contents → ℕ → RowNo → ℕ → FuncRow → Option Candidate
parameters c count row extra func = cond (extra == 0) (cond (length func.args == count) (Some (unexpanded_of row.0 func)) None) (expansion c count row.0 func)

-- a declared type with the one that stands for it
abbrev pub bound_pairs : Contents → List TypeNo → List TypeNo → List (TypeNo × TypeNo)
bound_pairs c declared inputs = zip declared (concrete_types c (zip declared inputs))

-- what is asked of the arguments, for these declared types with those that stand for them
abbrev pub targeted : Contents → ℕ → RowNo → FuncRow → Candidate → TypeNo → List (TypeNo × TypeNo) → Result Choice Refusal
targeted c at row func candidate result pairs =
    option_map_or (λ targets. Ok (record { row = row; extra = candidate.expanded; targets = targets; result = result }))
    (targets_of (taking_of func.body) c func.variadic candidate.expanded pairs) (refused code.Undefined at)

abbrev pub bound_choice : Contents → ℕ → RowNo → FuncRow → Candidate → List TypeNo → Binding → Result Choice Refusal
bound_choice c at row func candidate inputs Indeterminate = refused code.Indeterminate at
bound_choice c at row func candidate inputs (Concrete result) =
    cond (is_known result) (targeted c at row func candidate result (bound_pairs c candidate.declared inputs)) (refused code.Undefined at)

-- the types that stand for those that the record declares; a type that isn't there leaves the call undefined
abbrev pub chosen_call : Contents → ℕ → List TypeNo → RowNo → ℕ → Option FuncRow → Result Choice Refusal
chosen_call c at inputs row extra None = refused code.Undefined at
chosen_call c at inputs row extra (Some func) =
    option_map_or (λ candidate. bound_choice c at row func candidate inputs (bound c candidate.declared candidate.result_type inputs)) (parameters c (length inputs) row extra func) (refused code.Undefined at)

abbrev pub types_of : List Part → List TypeNo
types_of parts = map (λ part. (type_of part.tree).no) parts

abbrev pub args_of : Contents → Choice → List Term → Option (List Term)
args_of c choice trees = option_and_then (λ func. gathered_args c func choice.extra choice.targets trees) (slice_get c.funcs choice.row.0)

-- the arguments are converted as they are written, and then the call is made
abbrev pub choice_made : Scene → Order → ℕ → ℕ → Gathered → Use → Choice → Result Made Refusal
choice_made scene order at before gathered used choice =
    and_then (arguments scene at (none_yet gathered.progress.nodes) gathered.parts (in_order order choice.targets)) (λ all.
    call_made scene at before (gathered.progress.uses ++ used ∷ []) choice (args_of scene.c choice (in_order order all.trees)))

-- a call that stands for a cast
abbrev pub cast_part : Scene → ℕ → ℕ → Progress → TypeNo → Part → Result Made Refusal
cast_part scene at before progress type part =
    and_then (converted scene at progress.nodes part (plainly type) Explicit) (λ one. finished scene at before (progress.uses ++ uses.Cast type ∷ []) one.tree)

-- of one argument, to a type that values may have
abbrev pub cast_made : Scene → ℕ → ℕ → Gathered → TypeNo → List Part → Result Made Refusal
cast_made scene at before gathered type (part ∷ []) = cond (is_known type) (cast_part scene at before gathered.progress type part) (refused code.Undefined at)
cast_made scene at before gathered type _ = refused code.Undefined at

abbrev pub refusal_of : Pick → ℕ → Refusal
refusal_of Undefined at = refusal.At code.Undefined at
refusal_of (Ambiguous first second) at = refusal.At code.Ambiguous at
refusal_of Memory at = refusal.Memory

abbrev pub call_picked : Scene → Order → ℕ → ℕ → Gathered → List TypeNo → RowNo → ℕ → Result Made Refusal
call_picked scene order at before gathered inputs row extra =
    and_then (chosen_call scene.c at inputs row extra (slice_get scene.c.funcs row.0)) (λ choice. choice_made scene order at before gathered (uses.Function row choice.result) choice)

abbrev pub picked_call : Scene → Order → ℕ → ℕ → Gathered → List TypeNo → Result PickedFunc Pick → Result Made Refusal
picked_call scene order at before gathered inputs (Ok (picked.Call row extra)) = call_picked scene order at before gathered inputs row extra
picked_call scene order at before gathered inputs (Ok (picked.CastRequest type)) = cast_made scene at before gathered type gathered.parts
picked_call scene order at before gathered inputs (Err pick) = Err (refusal_of pick at)

-- the function of that name for arguments of these types
abbrev pub picked_of : Scene → Order → ℕ → List ℕ → Bool → ℕ → Gathered → List TypeNo → Result Made Refusal
picked_of scene order at name variadic before gathered inputs = picked_call scene order at before gathered inputs (picked_function scene.c name inputs variadic)

-- a call of that name over arguments that are resolved, beside trees of `before` nodes
abbrev pub called : Scene → Order → ℕ → List ℕ → Bool → ℕ → Gathered → Result Made Refusal
called scene order at name variadic before gathered =
    cond (nat_lt ARGUMENT_LIMIT (length gathered.parts)) (refused code.TooBig at) (picked_of scene order at name variadic before gathered (in_order order (types_of gathered.parts)))
