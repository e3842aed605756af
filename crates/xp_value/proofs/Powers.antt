-- Powers of ten up to the 38th.
use Rattle.std.proofs.Common.{◌≡◌, ℕ, ◌+◌, ◌-◌, ◌*◌, ◌/◌, ◌%◌, ◌^◌, ◌<◌, ◌≤◌, sym, ap, ◌∙◌, subst, arith}
use Rattle.std.proofs.Math.Nat.{pow-le-pow_right, one-le-pow, mul-lt-mul_of_pos_right, mul_assoc, add-mul, mod-lt}
use Rattle.std.proofs.lemmas.Nat.{pow-add, div-add-mod'}

pub pow_positive : (s : ℕ) → 0 < 10 ^ s
pow_positive s = one-le-pow s 10 (omega arith)

pub pow_below : (s : ℕ) → s ≤ 38 → 10 ^ s < 2 ^ 128
pow_below s h = let k : 10 ^ s ≤ 10 ^ 38 = pow-le-pow_right (omega arith) h in omega arith

pub pow-apart : (s : ℕ) → s ≤ 38 → 10 ^ s * 10 ^ (38 - s) ≡ 10 ^ 38
pow-apart s h = let e : s + (38 - s) ≡ 38 = omega arith in sym (pow-add 10 s (38 - s)) ∙ ap (λ n. 10 ^ n) e

-- what is behind the point, in units of the 38th decimal
pub rest_below : (coef s : ℕ) → s ≤ 38 → (coef % 10 ^ s) * 10 ^ (38 - s) < 10 ^ 38
rest_below coef s h =
    let k : coef % 10 ^ s < 10 ^ s = mod-lt coef (pow_positive s) in
    let m : (coef % 10 ^ s) * 10 ^ (38 - s) < 10 ^ s * 10 ^ (38 - s) = mul-lt-mul_of_pos_right k (pow_positive (38 - s)) in
    subst (λ n. (coef % 10 ^ s) * 10 ^ (38 - s) < n) (pow-apart s h) m

-- a number in units of the 38th decimal, by what is before and behind the point
pub whole_and_rest : (coef s : ℕ) → s ≤ 38 → coef / 10 ^ s * 10 ^ 38 + (coef % 10 ^ s) * 10 ^ (38 - s) ≡ coef * 10 ^ (38 - s)
whole_and_rest coef s h =
    ap (λ n. coef / 10 ^ s * n + (coef % 10 ^ s) * 10 ^ (38 - s)) (sym (pow-apart s h))
    ∙ ap (λ n. n + (coef % 10 ^ s) * 10 ^ (38 - s)) (sym (mul_assoc (coef / 10 ^ s) (10 ^ s) (10 ^ (38 - s))))
    ∙ sym (add-mul (coef / 10 ^ s * 10 ^ s) (coef % 10 ^ s) (10 ^ (38 - s)))
    ∙ ap (λ n. n * 10 ^ (38 - s)) (div-add-mod' coef (10 ^ s))
