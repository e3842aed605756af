-- What a body gives of its arguments, by its number in the table of bodies (manual 9).
use Rattle.std.specs.Prelude.{List, Bool, true, false, is_some, Option, Some, None, Result, Ok, Err}
use Rattle.xp_base.specs.OrMemory.{OrMemory}
use Rattle.xp_base.specs.declared.codes.EvalError.{EvalError}
use Rattle.xp_base.specs.declared.codes.EvalError.TheVariants.{Limit}
use Rattle.xp_base.specs.declared.numbers.BodyNo.{BodyNo}
use Rattle.xp_value.specs.declared.value.Value.{Value}
use Rattle.xp_call.specs.Applied.{applied}
use Rattle.xp_call.specs.Operations.{operation_at}
use Rattle.xp_call.specs.declared.fault.CallFault.{CallFault}
use Rattle.xp_call.specs.declared.fault.CallFault.TheVariants as fault
use Rattle.xp_call.specs.declared.operations.Operation.{Operation}

abbrev pub is_built : BodyNo → Bool
is_built body = is_some (operation_at body)

-- a body that isn't built, of which no call is evaluated, counts as past a limit
abbrev pub by_operation : Option Operation → List Value → Result Value EvalError
by_operation None values = Err Limit
by_operation (Some operation) values = applied operation values

abbrev pub body_outcome : BodyNo → List Value → Result Value EvalError
body_outcome body values = by_operation (operation_at body) values

-- ---- what a call answers

abbrev pub is_memory : CallFault → Bool
is_memory fault.Memory = true
is_memory (fault.Raised e) = false

abbrev pub answered : {T : Type 0} → Result T EvalError → Result T CallFault
answered (Ok v) = Ok v
answered (Err e) = Err (fault.Raised e)

-- this outcome, or want of memory
abbrev pub Calls : {T : Type 0} → Result T EvalError → Result T CallFault → Type 0
Calls said result = OrMemory is_memory (answered said) result
