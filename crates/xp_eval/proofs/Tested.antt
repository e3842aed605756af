-- Whether the value of a constant tree is so.
use Rattle.std.proofs.Common.{◌≡◌, [], Bool, true, false, refl, Ok, Err}
use Rattle.xp_base.specs.declared.codes.EvalError.{EvalError}
use Rattle.xp_value.specs.declared.value.Value.{Value}
use Rattle.xp_value.specs.declared.value.Value.TheVariants as value
use Rattle.xp_tree.specs.Term.{Term, is_const}
use Rattle.xp_call.specs.Calls.{Calls}
use Rattle.xp_call.specs.declared.fault.CallFault.TheVariants as fault
use Rattle.xp_meaning.specs.Early.{settles}
use Rattle.xp_meaning.specs.Meaning.{outcome}
use Rattle.xp_eval.specs.Real.{real}
use Rattle.xp_eval.proofs.Called.{answered_err, answered_ok}

module _ (test : Value → Bool) (t : Term) where
  pub of_value : (x : Value) → is_const t ≡ true → Calls (outcome real [] value.Null t) (Ok x) → settles real test t ≡ test x
  of_value x h said = rw (h, answered_ok (outcome real [] value.Null t) x said) refl

  pub of_error : (e : EvalError) → is_const t ≡ true → Calls (outcome real [] value.Null t) (Err (fault.Raised e)) → settles real test t ≡ false
  of_error e h said = rw (h, answered_err (outcome real [] value.Null t) e said) refl
