-- The number of a field as a numeric without decimals.
use Rattle.std.proofs.Common.{◌≡◌, ℕ, ℤ, pos, neg_ℤ, Bool, true, false, refl, sym, ap, ◌∙◌, Ok, Err}
use Rattle.std.specs.Prelude.{IfOk, Result}
use Rattle.xp_base.specs.FromLeft.{and_then}
use Rattle.xp_base.specs.declared.codes.EvalError.{EvalError}
use Rattle.xp_base.specs.declared.decimal.Dec.{Dec}
use Rattle.xp_numeric.specs.Numbers.{made, signed}
use Rattle.xp_numeric.proofs.Limited.{made_is, sign_of, size_of}

abbrev with_sign : Bool → ℕ → ℤ
with_sign false n = pos n
with_sign true n = neg_ℤ (pos n)

alike : (negative : Bool) (n : ℕ) → with_sign negative n ≡ signed negative n
alike false n = refl
alike true n = refl

is_made : (x : Dec) → x.scale ≡ 0 → Ok x ≡ made (signed x.neg x.coef) 0
is_made x e = made_is x (signed x.neg x.coef) 0 (sym (sign_of x.neg x.coef x.no_negative_zero)) (sym (size_of x.neg x.coef)) e

pub number_of_field : (r : Result Dec EvalError) (field : Result ℤ EvalError) → and_then r (λ x. Ok (with_sign x.neg x.coef)) ≡ field → IfOk r (λ x. x.scale ≡ 0) → r ≡ and_then field (λ z. made z 0)
number_of_field (Ok x) field e s = is_made x s ∙ ap (λ z. made z 0) (sym (alike x.neg x.coef)) ∙ ap (λ f. and_then f (λ z. made z 0)) e
number_of_field (Err error) field e s = ap (λ f. and_then f (λ z. made z 0)) e
