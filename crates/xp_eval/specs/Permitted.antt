-- What is answered of trees is permitted (manual 4.2.14).
use Rattle.std.specs.Prelude.{List, IfSome, Option, Result, Ok, Err}
use Rattle.xp_base.specs.declared.codes.EvalError.{EvalError}
use Rattle.xp_value.specs.declared.value.Value.{Value}
use Rattle.xp_value.specs.declared.value.Value.TheVariants as value
use Rattle.xp_tree.specs.Term.{Term, Terms}
use Rattle.xp_call.specs.declared.fault.CallFault.{CallFault}
use Rattle.xp_call.specs.declared.fault.CallFault.TheVariants as fault
use Rattle.xp_meaning.specs.Permits.{Permits, PermitsAll, SomePermits}
use Rattle.xp_meaning.specs.Permitted.{IsOnlyValue}
use Rattle.xp_eval.specs.Real.{real}

-- a value is the only one that is permitted, and an error is permitted; want of memory says nothing
abbrev pub AnswersPermitted : {T : Type 0} → (Result T EvalError → Type 0) → Result T CallFault → Type 0
AnswersPermitted permits (Ok v) = IsOnlyValue permits v
AnswersPermitted permits (Err (fault.Raised e)) = permits (Err e)
AnswersPermitted permits (Err fault.Memory) = Unit {0}

-- of a tree at a row; of several trees, an error is permitted of one of them
abbrev pub IsPermitted : List Value → Term → Result Value CallFault → Type 0
IsPermitted row t result = AnswersPermitted (Permits real row value.Null t) result

abbrev pub ArePermitted : List Value → Terms → Result (List Value) CallFault → Type 0
ArePermitted row trees result = AnswersPermitted (PermitsAll real row value.Null trees) result

-- an early error is permitted at every row; of several trees, of one of them
abbrev pub IsPermittedEarly : Term → Option EvalError → Type 0
IsPermittedEarly t early = IfSome early (λ e. (row : List Value) → Permits real row value.Null t (Err e))

abbrev pub ArePermittedEarly : Terms → Option EvalError → Type 0
ArePermittedEarly trees early = IfSome early (λ e. (row : List Value) → SomePermits real row value.Null trees (Err e))
