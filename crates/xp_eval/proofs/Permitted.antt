-- What is answered is permitted.
use Rattle.std.proofs.Common.{◌≡◌, List, IfSome, Option, Some, None, Result, Ok, Err, sym, subst}
use Rattle.std.specs.Prelude.{IfOk}
use Rattle.xp_base.specs.declared.codes.EvalError.{EvalError}
use Rattle.xp_value.specs.declared.value.Value.{Value}
use Rattle.xp_value.specs.declared.value.Value.TheVariants as value
use Rattle.xp_tree.specs.Term.{Term, Terms}
use Rattle.xp_call.specs.Calls.{Calls}
use Rattle.xp_call.specs.declared.fault.CallFault.{CallFault}
use Rattle.xp_call.specs.declared.fault.CallFault.TheVariants as fault
use Rattle.xp_meaning.specs.Early.{early_all}
use Rattle.xp_meaning.specs.Meaning.{outcome, outcomes}
use Rattle.xp_meaning.specs.Permits.{Permits, PermitsAll, SomePermits}
use Rattle.xp_meaning.specs.Permitted as law
use Rattle.xp_meaning.proofs.Laws.{early_of_all_permitted, early_permitted, left_of_all_permitted, left_permitted}
use Rattle.xp_eval.specs.Permitted.{AnswersPermitted, ArePermitted, ArePermittedEarly, IsPermitted, IsPermittedEarly}
use Rattle.xp_eval.specs.Real.{early_error, first_raised, real}
use Rattle.xp_eval.proofs.Called.{answered_err, answered_ok}

answered : {T : Type 0} (permits : Result T EvalError → Type 0) (o : Result T EvalError) (r : Result T CallFault) → law.IsPermitted permits o → Calls o r → AnswersPermitted permits r
answered permits o (Ok v) h said = subst (law.IsPermitted permits) (answered_ok o v said) h
answered permits o (Err (fault.Raised e)) h said = subst (law.IsPermitted permits) (answered_err o e said) h
answered permits o (Err fault.Memory) h said = tt

pub is_permitted : (row : List Value) (t : Term) (r : Result Value CallFault) → Calls (outcome real row value.Null t) r → IsPermitted row t r
is_permitted row t r said = answered (Permits real row value.Null t) (outcome real row value.Null t) r (left_permitted real row value.Null t) said

pub are_permitted : (row : List Value) (ts : Terms) (r : Result (List Value) CallFault) → Calls (outcomes real row value.Null ts) r → ArePermitted row ts r
are_permitted row ts r said = answered (PermitsAll real row value.Null ts) (outcomes real row value.Null ts) r (left_of_all_permitted real row value.Null ts) said

early_said : (t : Term) (e : Option EvalError) → e ≡ early_error t → IsPermittedEarly t e
early_said t (Some e) said = λ row. subst (λ o. IfSome o (λ e. Permits real row value.Null t (Err e))) (sym said) (early_permitted real row t)
early_said t None said = tt

early_of_all_said : (ts : Terms) (e : Option EvalError) → e ≡ first_raised (early_all real ts) → ArePermittedEarly ts e
early_of_all_said ts (Some e) said = λ row. subst (λ o. IfSome o (λ e. SomePermits real row value.Null ts (Err e))) (sym said) (early_of_all_permitted real row ts)
early_of_all_said ts None said = tt

pub is_permitted_early : {M : Type 0} (t : Term) (r : Result (Option EvalError) M) → IfOk r (λ e. e ≡ early_error t) → IfOk r (λ e. IsPermittedEarly t e)
is_permitted_early t (Ok e) said = early_said t e said
is_permitted_early t (Err m) said = tt

pub are_permitted_early : {M : Type 0} (ts : Terms) (r : Result (Option EvalError) M) → IfOk r (λ e. e ≡ first_raised (early_all real ts)) → IfOk r (λ e. ArePermittedEarly ts e)
are_permitted_early ts (Ok e) said = early_of_all_said ts e said
are_permitted_early ts (Err m) said = tt
