-- A numeric without zeros at its end is the one that is found digit by digit.
use Rattle.std.proofs.Common.{◌≡◌, ◌≢◌, ℕ, zero, suc, ◌+◌, ◌*◌, ◌/◌, ◌%◌, ◌^◌, ◌<◌, ◌≤◌, Bool, true, false, ◌==◌, cond, pos, neg_ℤ, Ok, refl, sym, ap, ◌∙◌, arith, mul_assoc, ◌⊎◌, inl, inr}
use Rattle.std.specs.Prelude.{◌-◌, unsigned_abs}
use Rattle.std.proofs.lemmas.Bool.{cases_lt, eqb-true, true≢false, false≢true}
use Rattle.std.proofs.lemmas.Nat.{div-add-mod', mod-mul-add, pow-add}
use Rattle.std.proofs.Math.Nat.{mul-lt-mul_of_pos_right, mul-pos, pow-suc, mul_comm}
use Rattle.xp_base.specs.declared.decimal.Dec.{Dec}
use Rattle.xp_value.proofs.Powers.{pow_positive}
use Rattle.xp_numeric.specs.Numbers.{is_negative, made, signed}
use Rattle.xp_numeric.specs.Places.{IsTrimmed}
use Rattle.xp_numeric.proofs.Limited.{made_is, sign_of, size_of}
use Rattle.xp_call.specs.Numerics.{without_zeros}

cancel : (a b k : ℕ) → 0 < k → a * k ≡ b * k → a ≡ b
cancel a b k h e = by (cases_lt a b) (cases_lt b a)
  where
    by : (a < b) ⊎ (b ≤ a) → (b < a) ⊎ (a ≤ b) → a ≡ b
    by (inl l) r = let m : a * k < b * k = mul-lt-mul_of_pos_right l h in absurd (omega arith)
    by (inr l) (inl r) = let m : b * k < a * k = mul-lt-mul_of_pos_right r h in absurd (omega arith)
    by (inr l) (inr r) = omega arith

-- with one zero more the last digit is zero
tenfold : (n k : ℕ) → (n * 10 ^ suc k) % 10 ≡ 0
tenfold n k =
    let e : n * 10 ^ suc k ≡ n * 10 ^ k * 10 + 0 = ap (λ m. n * m) (pow-suc 10 k) ∙ sym (mul_assoc n (10 ^ k) 10) ∙ omega arith in
    ap (λ m. m % 10) e ∙ mod-mul-add (n * 10 ^ k) 10 0 (omega arith)

-- a size that is as great, with more zeros behind it
behind : (a b p q k : ℕ) → p ≡ q + k → a * 10 ^ p ≡ b * 10 ^ q → b ≡ a * 10 ^ k
behind a b p q k e f =
    let g : 10 ^ p ≡ 10 ^ k * 10 ^ q = ap (λ n. 10 ^ n) (let h : p ≡ k + q = omega arith in h) ∙ pow-add 10 k q in
    sym (cancel (a * 10 ^ k) b (10 ^ q) (pow_positive q) (mul_assoc a (10 ^ k) (10 ^ q) ∙ ap (λ n. a * n) (sym g) ∙ f))

-- two sizes are the same where neither has a zero at its end that could go
alike : (c s d t : ℕ) → s ≤ 38 → t ≤ 38 → d * 10 ^ (38 - t) ≡ c * 10 ^ (38 - s) → (0 < s → c % 10 ≢ 0) → (0 < t → d % 10 ≢ 0) → (t ≡ s) × (d ≡ c)
alike c s d t hs ht e last last' = by (cases_lt t s) (cases_lt s t)
  where
    by : (t < s) ⊎ (s ≤ t) → (s < t) ⊎ (t ≤ s) → (t ≡ s) × (d ≡ c)
    by (inl l) r =
        let k : 38 - t ≡ 38 - s + suc (s - t - 1) = omega arith in
        absurd (last (omega arith) (ap (λ n. n % 10) (behind d c (38 - t) (38 - s) (suc (s - t - 1)) k e) ∙ tenfold d (s - t - 1)))
    by (inr l) (inl r) =
        let k : 38 - s ≡ 38 - t + suc (t - s - 1) = omega arith in
        absurd (last' (omega arith) (ap (λ n. n % 10) (behind c d (38 - s) (38 - t) (suc (t - s - 1)) k (sym e)) ∙ tenfold c (t - s - 1)))
    by (inr l) (inr r) =
        let same : t ≡ s = omega arith in
        (same, cancel d c (10 ^ (38 - s)) (pow_positive (38 - s)) (ap (λ n. d * 10 ^ (38 - n)) (sym same) ∙ e))

-- one zero less
shorter : (c s : ℕ) → suc s ≤ 38 → c % 10 ≡ 0 → c / 10 * 10 ^ (38 - s) ≡ c * 10 ^ (38 - suc s)
shorter c s h e =
    let k : 38 - s ≡ suc (38 - suc s) = omega arith in
    let whole : c / 10 * 10 ≡ c = omega (arith, div-add-mod' c 10, e) in
    ap (λ n. c / 10 * 10 ^ n) k
    ∙ ap (λ n. c / 10 * n) (pow-suc 10 (38 - suc s) ∙ mul_comm (10 ^ (38 - suc s)) 10)
    ∙ sym (mul_assoc (c / 10) 10 (10 ^ (38 - suc s)))
    ∙ ap (λ n. n * 10 ^ (38 - suc s)) whole

found : (negative : Bool) (s c d t : ℕ) → s ≤ 38 → t ≤ 38 → d * 10 ^ (38 - t) ≡ c * 10 ^ (38 - s) → (0 < t → d % 10 ≢ 0) → without_zeros negative s c ≡ made (signed negative d) t
found negative zero c d t hs ht e last =
    let same = alike c 0 d t hs ht e (λ h. absurd (omega arith)) last in
    ap (λ n. made (signed negative n) 0) (sym same.1) ∙ ap (made (signed negative d)) (sym same.0)
found negative (suc s) c d t hs ht e last =
    by (c % 10 == 0) refl (λ z. found negative s (c / 10) d t (omega arith) ht (e ∙ sym (shorter c s hs z)) last)
  where
    by : (b : Bool) → (c % 10 == 0) ≡ b → (c % 10 ≡ 0 → without_zeros negative s (c / 10) ≡ made (signed negative d) t) → cond b (without_zeros negative s (c / 10)) (made (signed negative c) (suc s)) ≡ made (signed negative d) t
    by true z shorter_found = shorter_found (eqb-true (c % 10) 0 z)
    by false z shorter_found =
        let some : 0 < suc s → c % 10 ≢ 0 = λ h w. true≢false (sym (ap (λ n. n == 0) w) ∙ z) in
        let same = alike c (suc s) d t hs ht e some last in
        ap (λ n. made (signed negative n) (suc s)) (sym same.1) ∙ ap (made (signed negative d)) (sym same.0)

-- ---- with signs

size_and_sign : (n m : Bool) (a b : ℕ) → (n ≡ true → 0 < a) → (m ≡ true → 0 < b) → cond n (neg_ℤ (pos a)) (pos a) ≡ cond m (neg_ℤ (pos b)) (pos b) → (n ≡ m) × (a ≡ b)
size_and_sign true true zero b p q e = absurd (omega (arith, p refl))
size_and_sign true true (suc a) zero p q e = absurd (omega (arith, q refl))
size_and_sign true true (suc a) (suc b) p q e = (refl, ap unsigned_abs e)
size_and_sign true false zero b p q e = absurd (omega (arith, p refl))
size_and_sign true false (suc a) b p q e = absurd (true≢false (ap is_negative e))
size_and_sign false true a zero p q e = absurd (omega (arith, q refl))
size_and_sign false true a (suc b) p q e = absurd (false≢true (ap is_negative e))
size_and_sign false false a b p q e = (refl, ap unsigned_abs e)

positive : (a k : ℕ) → 0 < a → 0 < a * 10 ^ k
positive a k h = mul-pos h (pow_positive k)

pub is_trimmed : (x y : Dec) → IsTrimmed x y → Ok y ≡ without_zeros x.neg x.scale x.coef
is_trimmed x y h =
    let up = size_and_sign y.neg x.neg (y.coef * 10 ^ (38 - y.scale)) (x.coef * 10 ^ (38 - x.scale)) (λ n. positive y.coef (38 - y.scale) (y.no_negative_zero n)) (λ n. positive x.coef (38 - x.scale) (x.no_negative_zero n)) h.value in
    made_is y (signed y.neg y.coef) y.scale (sym (sign_of y.neg y.coef y.no_negative_zero)) (sym (size_of y.neg y.coef)) refl
    ∙ ap (λ n. made (signed n y.coef) y.scale) up.0
    ∙ sym (found x.neg x.scale x.coef y.coef y.scale x.decimals y.decimals up.1 h.last)
