-- Two outcomes one after the other, where the first may decide.
use Rattle.std.proofs.Common.{◌≡◌, Bool, true, false, refl, Result, Ok, Err}
use Rattle.std.specs.Prelude.{if◌then◌else◌}
use Rattle.xp_base.specs.FromLeft.{and_then}
use Rattle.xp_value.specs.declared.value.Value.{Value}
use Rattle.xp_call.specs.Calls.{Calls}
use Rattle.xp_call.specs.declared.fault.CallFault.{CallFault}
use Rattle.xp_meaning.specs.Truth.{Outcome}
use Rattle.xp_eval.proofs.Called.{answered_ok, calls_stop, calls_then}

module _ (stops : Value → Bool) (of : Value → Value → Value) (o u : Outcome) (x : Value) where
  pub decided : Calls o (Ok x) → stops x ≡ true → Calls (and_then o (λ x. if stops x then Ok x else and_then u (λ y. Ok (of x y)))) (Ok x)
  decided h is = rw (answered_ok o x h, is) refl

  pub second_stop : (e : CallFault) → Calls o (Ok x) → stops x ≡ false → Calls u (Err e) → Calls (and_then o (λ x. if stops x then Ok x else and_then u (λ y. Ok (of x y)))) (Err e)
  second_stop e h is k = rw (answered_ok o x h, is) (calls_stop u (λ y. Ok (of x y)) e k)

  pub connected : (y z : Value) → Calls o (Ok x) → stops x ≡ false → Calls u (Ok y) → z ≡ of x y → Calls (and_then o (λ x. if stops x then Ok x else and_then u (λ y. Ok (of x y)))) (Ok z)
  connected y z h is k e = rw (answered_ok o x h, is, answered_ok u y k, e) refl

module _ (f : Value → Value → Outcome) (o u : Outcome) (x : Value) where
  pub pair_stop : (e : CallFault) → Calls o (Ok x) → Calls u (Err e) → Calls (and_then o (λ x. and_then u (f x))) (Err e)
  pair_stop e h k = rw (answered_ok o x h) (calls_stop u (f x) e k)

  pub pair : (y : Value) (r : Result Value CallFault) → Calls o (Ok x) → Calls u (Ok y) → Calls (f x y) r → Calls (and_then o (λ x. and_then u (f x))) r
  pair y r h k said = rw (answered_ok o x h) (calls_then u (f x) y r k said)
