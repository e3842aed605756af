-- The first digit in base 10000.
use Rattle.std.proofs.Common.{◌≢◌}
use Rattle.std.proofs.lemmas.Bool.{ne_eqb}
use Rattle.xp_base.specs.declared.decimal.Dec.{Dec}
use Rattle.xp_numeric.specs.Quotients.{weight, first_digit}
use Rattle.std.proofs.Common.{◌≡◌, ℕ, zero, suc, ◌+◌, ◌-◌, ◌*◌, ◌/◌, ◌%◌, ◌^◌, ◌<◌, ◌≤◌, [], ◌∷◌, ◌++◌, length, get_or, refl, sym, ap, ◌∙◌, subst, arith, length-append}
use Rattle.std.specs.Int.Digits.{digits_of}
use Rattle.std.proofs.lemmas.Int.Digits.{digits_of_step}
use Rattle.std.proofs.lemmas.Nat.{pow-add}
use Rattle.std.proofs.Math.ListN.{get_or-append}
use Rattle.std.proofs.Math.Nat.{mul_assoc, mul_comm, div-div-eq-div-mul, mul-div_cancel, mul-div-mul_right, pow-suc, one-le-pow, pow-le-pow_right, mul-le-mul_right, mul-lt-mul_of_pos_right}
use Rattle.xp_value.proofs.Powers.{pow_positive}

-- a number from 10000^p up has p + 1 digits, and this one first
pub first_of : (p n : ℕ) → 10000 ^ p ≤ n → n < 10000 ^ (p + 1) → (length (digits_of 10000 n) ≡ p + 1) × (get_or (digits_of 10000 n) 0 0 ≡ n / 10000 ^ p)
first_of zero n low high =
    let s : digits_of 10000 n ≡ digits_of 10000 (n / 10000) ++ (n % 10000 ∷ []) = digits_of_step 10000 n (omega arith) (omega arith) in
    let q : n / 10000 ≡ 0 = omega arith in
    let t : digits_of 10000 n ≡ n % 10000 ∷ [] = s ∙ ap (λ k. digits_of 10000 k ++ (n % 10000 ∷ [])) q in
    (ap length t, ap (λ ds. get_or ds 0 0) t ∙ omega arith)
first_of (suc p) n low high =
    let e : 10000 ^ suc p ≡ 10000 ^ p * 10000 = pow-suc 10000 p in
    let f : 10000 ^ (suc p + 1) ≡ 10000 ^ (p + 1) * 10000 = ap (λ k. 10000 ^ k) (omega arith) ∙ pow-suc 10000 (p + 1) in
    let a : 10000 ^ p ≤ n / 10000 = omega arith in
    let b : n / 10000 < 10000 ^ (p + 1) = omega arith in
    let ih = first_of p (n / 10000) a b in
    let one : 0 < 10000 ^ p = one-le-pow p 10000 (omega arith) in
    let s : digits_of 10000 n ≡ digits_of 10000 (n / 10000) ++ (n % 10000 ∷ []) = digits_of_step 10000 n (omega arith) (omega arith) in
    let len : length (digits_of 10000 (n / 10000) ++ (n % 10000 ∷ [])) ≡ length (digits_of 10000 (n / 10000)) + 1 = length-append (digits_of 10000 (n / 10000)) (n % 10000 ∷ []) in
    let here : 0 < length (digits_of 10000 (n / 10000)) = omega (arith, ih.0) in
    let den : 10000 * 10000 ^ p ≡ 10000 ^ suc p = mul_comm 10000 (10000 ^ p) ∙ sym e in (
      ap length s ∙ len ∙ omega (arith, ih.0),
      ap (λ ds. get_or ds 0 0) s ∙ get_or-append (digits_of 10000 (n / 10000)) (n % 10000 ∷ []) 0 0 here ∙ ih.1 ∙ div-div-eq-div-mul n 10000 (10000 ^ p) ∙ ap (λ k. n / k) den,
    )

-- powers of 10000 are every fourth power of ten
pow_four : (p : ℕ) → 10000 ^ p ≡ 10 ^ (4 * p)
pow_four zero = refl
pow_four (suc p) =
    let g : 4 * suc p ≡ 4 * p + 4 = omega arith in
    pow-suc 10000 p ∙ ap (λ k. k * 10000) (pow_four p) ∙ sym (pow-add 10 (4 * p) 4) ∙ ap (λ k. 10 ^ k) (sym g)

-- a size from 10^i up, below the next power, with d decimals more
pub placed : (c i d : ℕ) → 10 ^ i ≤ c → c < 10 * 10 ^ i → (length (digits_of 10000 (c * 10 ^ d)) ≡ (i + d) / 4 + 1) × (get_or (digits_of 10000 (c * 10 ^ d)) 0 0 ≡ c * 10 ^ d / 10 ^ (4 * ((i + d) / 4)))
placed c i d low high =
    let p : 4 * ((i + d) / 4) ≤ i + d = omega arith in
    let t : i + d + 1 ≤ 4 * ((i + d) / 4 + 1) = omega arith in
    let a : 10 ^ (4 * ((i + d) / 4)) ≤ 10 ^ (i + d) = pow-le-pow_right (omega arith) p in
    let b : 10 ^ (i + d + 1) ≤ 10 ^ (4 * ((i + d) / 4 + 1)) = pow-le-pow_right (omega arith) t in
    let e : 10 ^ (i + d) ≡ 10 ^ i * 10 ^ d = pow-add 10 i d in
    let f : 10 ^ i * 10 ^ d ≤ c * 10 ^ d = mul-le-mul_right (10 ^ d) low in
    let g : c * 10 ^ d < 10 * 10 ^ i * 10 ^ d = mul-lt-mul_of_pos_right high (pow_positive d) in
    let h : 10 * 10 ^ i * 10 ^ d ≡ 10 * (10 ^ i * 10 ^ d) = mul_assoc 10 (10 ^ i) (10 ^ d) in
    let k : 10 ^ (i + d + 1) ≡ 10 ^ (i + d) * 10 = pow-add 10 (i + d) 1 in
    let u = pow_four ((i + d) / 4) in
    let v = pow_four ((i + d) / 4 + 1) in
    let w = first_of ((i + d) / 4) (c * 10 ^ d) (omega arith) (omega arith) in
    (w.0, w.1 ∙ ap (λ m. c * 10 ^ d / m) u)

-- the first digit, where it stands behind the point of the size, and where it stands before it
pub digit_behind : (c d low : ℕ) → low ≤ d → c * 10 ^ d / 10 ^ low ≡ c * 10 ^ (d - low)
digit_behind c d low h =
    let e : d - low + low ≡ d = omega arith in
    ap (λ k. c * k / 10 ^ low) (ap (λ k. 10 ^ k) (sym e) ∙ pow-add 10 (d - low) low)
    ∙ ap (λ k. k / 10 ^ low) (sym (mul_assoc c (10 ^ (d - low)) (10 ^ low)))
    ∙ mul-div_cancel (c * 10 ^ (d - low)) (pow_positive low)

pub digit_before : (c d low : ℕ) → d ≤ low → c * 10 ^ d / 10 ^ low ≡ c / 10 ^ (low - d)
digit_before c d low h =
    let e : low - d + d ≡ low = omega arith in
    ap (λ k. c * 10 ^ d / k) (ap (λ k. 10 ^ k) (sym e) ∙ pow-add 10 (low - d) d)
    ∙ mul-div-mul_right c (10 ^ (low - d)) (pow_positive d)

pub weight_is : (x : Dec) (i d : ℕ) → x.coef ≢ 0 → d ≡ 40 - x.scale → 10 ^ i ≤ x.coef → x.coef < 10 * 10 ^ i → (i + d) / 4 ≡ weight x
weight_is x i d ne e low high =
    let f = (placed x.coef i d low high).0 in
    let g : length (digits_of 10000 (x.coef * 10 ^ (40 - x.scale))) ≡ (i + d) / 4 + 1 = subst (λ k. length (digits_of 10000 (x.coef * 10 ^ k)) ≡ (i + d) / 4 + 1) e f in
    rw (ne_eqb x.coef 0 ne) (omega arith)

pub digit_is : (x : Dec) (i d : ℕ) → d ≡ 40 - x.scale → 10 ^ i ≤ x.coef → x.coef < 10 * 10 ^ i → x.coef * 10 ^ d / 10 ^ (4 * ((i + d) / 4)) ≡ first_digit x
digit_is x i d e low high = sym (subst (λ k. get_or (digits_of 10000 (x.coef * 10 ^ k)) 0 0 ≡ x.coef * 10 ^ d / 10 ^ (4 * ((i + d) / 4))) e (placed x.coef i d low high).1)
