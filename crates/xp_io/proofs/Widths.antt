-- A number that stands still past all widths is out of range as the number itself is.
use Rattle.std.proofs.Common.{◌≡◌, ℕ, zero, suc, ◌-◌, ◌^◌, ◌<◌, ◌≤◌, Bool, true, false, Option, Some, None, option_map, Err, refl, sym, ap, ◌∙◌, arith, inl, inr, lit<}
use Rattle.std.proofs.Math.Nat.{pow-le-pow_right}
use Rattle.std.proofs.lemmas.Bool.{cases_lt, le-ltb}
use Rattle.xp_base.specs.declared.codes.EvalError.TheVariants as error
use Rattle.std.proofs.lemmas.Option.{none-some, same_Some}
use Rattle.xp_io.specs.Integers.{with_sign, within}
use Rattle.xp_io.specs.inner.Digits.{capped}

pub below_all : (width : ℕ) → width ≤ 64 → 2 ^ (width - 1) ≤ 2 ^ 63
below_all width few = let small : width - 1 ≤ 63 = omega arith in pow-le-pow_right (lit< tt) small

far : (width : ℕ) (minus : Bool) (n : ℕ) → width ≤ 64 → 2 ^ 63 < n → within width (Some (with_sign minus n)) ≡ Err error.OutOfRange
far width false n few h = let most : 2 ^ (width - 1) ≤ 2 ^ 63 = below_all width few in rw (le-ltb n (2 ^ (width - 1)) (omega arith)) refl
far width true zero few h = absurd (omega arith)
far width true (suc k) few h = let most : 2 ^ (width - 1) ≤ 2 ^ 63 = below_all width few in rw (le-ltb k (2 ^ (width - 1)) (omega arith)) refl

capped_within : (width : ℕ) (minus : Bool) (n : ℕ) → width ≤ 64 → within width (Some (with_sign minus (capped n))) ≡ within width (Some (with_sign minus n))
capped_within width minus n few = elim (cases_lt n (2 ^ 64 - 1)) [
  | inl h ↦ ap (λ k. within width (Some (with_sign minus k))) (omega arith)
  | inr h ↦ far width minus (capped n) few (omega arith) ∙ sym (far width minus n few (omega arith))
]

pub capped_none : (width : ℕ) (minus : Bool) (o : Option ℕ) → None ≡ option_map capped o → Err error.BadText ≡ within width (option_map (with_sign minus) o)
capped_none width minus None e = refl
capped_none width minus (Some n) e = absurd (none-some _ e)

pub capped_some : (width : ℕ) (minus : Bool) (o : Option ℕ) (n : ℕ) → width ≤ 64 → Some n ≡ option_map capped o → within width (Some (with_sign minus n)) ≡ within width (option_map (with_sign minus) o)
capped_some width minus None n few e = absurd (none-some _ (sym e))
capped_some width minus (Some k) n few e = ap (λ m. within width (Some (with_sign minus m))) (same_Some n (capped k) e) ∙ capped_within width minus k few
