-- What is picked, or the refusal of a choice.
use Rattle.std.proofs.Common.{ℕ, List, refl, Result, Ok, Err}
use Rattle.xp_base.specs.OrMemory.{OrMemory}
use Rattle.xp_base.specs.declared.numbers.RowNo.{RowNo}
use Rattle.xp_base.specs.declared.numbers.TypeNo.{TypeNo}
use Rattle.xp_candidates.specs.Chosen.{Answers}
use Rattle.xp_candidates.specs.declared.pick.Pick.{Pick}
use Rattle.xp_candidates.specs.declared.pick.Pick.TheVariants.{Undefined, Ambiguous, Memory}
use Rattle.xp_func.specs.declared.pick.PickedFunc.{PickedFunc}
use Rattle.xp_named.specs.declared.refusal.Refusal.{Refusal}
use Rattle.xp_resolve.specs.declared.made.Gathered.{Gathered}
use Rattle.xp_resolve.specs.declared.made.Made.{Made}
use Rattle.xp_resolve.specs.declared.order.Order.{Order}
use Rattle.xp_resolve.specs.Calls.{picked_call, refusal_of}
use Rattle.xp_resolve.specs.Made.{is_memory}
use Rattle.xp_resolve.specs.Operators.{picked_operation}
use Rattle.xp_resolve.specs.Scene.{Scene}

pub call_ok : (scene : Scene) (order : Order) (at before : ℕ) (gathered : Gathered) (inputs : List TypeNo) (said : Result PickedFunc Pick) (p : PickedFunc) (r : Result Made Refusal)
    → Answers said (Ok p) → OrMemory is_memory (picked_call scene order at before gathered inputs (Ok p)) r → OrMemory is_memory (picked_call scene order at before gathered inputs said) r
call_ok scene order at before gathered inputs said p r is next = rw is next

pub call_err : (scene : Scene) (order : Order) (at before : ℕ) (gathered : Gathered) (inputs : List TypeNo) (said : Result PickedFunc Pick) (pick : Pick)
    → Answers said (Err pick) → OrMemory is_memory (picked_call scene order at before gathered inputs said) (Err (refusal_of pick at))
call_err scene order at before gathered inputs said Undefined is = rw is refl
call_err scene order at before gathered inputs said (Ambiguous first second) is = rw is refl
call_err scene order at before gathered inputs said Memory is = tt

pub operation_ok : (scene : Scene) (at before : ℕ) (gathered : Gathered) (inputs : List TypeNo) (said : Result RowNo Pick) (row : RowNo) (r : Result Made Refusal)
    → Answers said (Ok row) → OrMemory is_memory (picked_operation scene at before gathered inputs (Ok row)) r → OrMemory is_memory (picked_operation scene at before gathered inputs said) r
operation_ok scene at before gathered inputs said row r is next = rw is next

pub operation_err : (scene : Scene) (at before : ℕ) (gathered : Gathered) (inputs : List TypeNo) (said : Result RowNo Pick) (pick : Pick)
    → Answers said (Err pick) → OrMemory is_memory (picked_operation scene at before gathered inputs said) (Err (refusal_of pick at))
operation_err scene at before gathered inputs said Undefined is = rw is refl
operation_err scene at before gathered inputs said (Ambiguous first second) is = rw is refl
operation_err scene at before gathered inputs said Memory is = tt
