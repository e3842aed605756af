-- Quotients of sizes that are raised by powers of ten.
use Rattle.std.proofs.Common.{◌≡◌, ℕ, ◌+◌, ◌-◌, ◌*◌, ◌/◌, ◌%◌, ◌^◌, ◌<◌, ◌≤◌, min, sym, ap, ◌∙◌, arith, inl, inr}
use Rattle.std.proofs.lemmas.Bool.{cases_lt}
use Rattle.std.proofs.lemmas.Nat.{div-mul-add, mod-mul-add, div-add-mod', pow-add, shr-shr}
use Rattle.std.proofs.Math.Nat.{mod-lt, mul_assoc, mul_comm, add-mul, le-mul_of_pos_right, mul-div-mul_right, div-eq_of_lt, div-le_self, mul-le-mul_right}
use Rattle.xp_numeric.specs.Quotients.{nearest}
use Rattle.xp_value.proofs.Powers.{pow_positive}

-- a quotient isn't above the factor that a smaller size than the divisor is multiplied by
pub quotient_below : (q r d s f : ℕ) → q * d + r ≡ s * f → s < d → q ≤ f
quotient_below q r d s f e h = elim (cases_lt f q) [
  | inl k ↦
      let a : (f + 1) * d ≤ q * d = mul-le-mul_right d (omega arith) in
      let b : s * f ≤ d * f = mul-le-mul_right f (omega arith) in
      let t : d * f ≡ f * d = mul_comm d f in
      absurd (omega arith)
  | inr k ↦ k
]

-- a half, and the bit below it
pub half_more : (f b : ℕ) → f / 2 ^ b ≡ 2 * (f / 2 ^ (b + 1)) + (f / 2 ^ b) % 2
half_more f b =
    let e : f / 2 ^ b / 2 ^ 1 ≡ f / 2 ^ (b + 1) = shr-shr f b 1 in
    let g : f / 2 ^ b / 2 * 2 + (f / 2 ^ b) % 2 ≡ f / 2 ^ b = div-add-mod' (f / 2 ^ b) 2 in
    omega arith

-- one bit more of the factor: the bit isn't set
pub step_clear : (q r d s f b q' r' : ℕ) → q * d + r ≡ s * (f / 2 ^ (b + 1)) → q' * d + r' ≡ 2 * q * d + 2 * r → (f / 2 ^ b) % 2 ≡ 0 → q' * d + r' ≡ s * (f / 2 ^ b)
step_clear q r d s f b q' r' e g z =
    let h = half_more f b in
    let k : f / 2 ^ b ≡ f / 2 ^ (b + 1) + f / 2 ^ (b + 1) = omega arith in
    let m : s * (f / 2 ^ b) ≡ s * (f / 2 ^ (b + 1)) + s * (f / 2 ^ (b + 1)) = ap (λ n. s * n) k ∙ omega arith in
    omega arith

-- the bit is set
pub step_set : (q r d s f b q' r' q'' r'' : ℕ) → q * d + r ≡ s * (f / 2 ^ (b + 1)) → q' * d + r' ≡ 2 * q * d + 2 * r → q'' * d + r'' ≡ q' * d + (r' + s) → (f / 2 ^ b) % 2 ≡ 1 → q'' * d + r'' ≡ s * (f / 2 ^ b)
step_set q r d s f b q' r' q'' r'' e g l z =
    let h = half_more f b in
    let k : f / 2 ^ b ≡ f / 2 ^ (b + 1) + f / 2 ^ (b + 1) + 1 = omega arith in
    let m : s * (f / 2 ^ b) ≡ s * (f / 2 ^ (b + 1)) + s * (f / 2 ^ (b + 1)) + s = ap (λ n. s * n) k ∙ omega arith in
    omega arith

-- a quotient and a rest, times a factor
raised : (n d f more left : ℕ) → more * d + left ≡ n % d * f → n * f ≡ (n / d * f + more) * d + left
raised n d f more left e =
    let s : n / d * d + n % d ≡ n = div-add-mod' n d in
    ap (λ k. k * f) (sym s) ∙ add-mul (n / d * d) (n % d) f ∙ ap (λ k. n / d * d * f + k) (sym e) ∙ omega arith

pub raised_div : (n d f more left : ℕ) → left < d → more * d + left ≡ n % d * f → n * f / d ≡ n / d * f + more
raised_div n d f more left h e = ap (λ k. k / d) (raised n d f more left e) ∙ div-mul-add (n / d * f + more) d left h

pub raised_mod : (n d f more left : ℕ) → left < d → more * d + left ≡ n % d * f → (n * f) % d ≡ left
raised_mod n d f more left h e = ap (λ k. k % d) (raised n d f more left e) ∙ mod-mul-add (n / d * f + more) d left h

-- a quotient that stands still
pub held : (q f more : ℕ) → 0 < f → min (min (min q (2 ^ 128 - 1) * f) (2 ^ 128 - 1) + more) (2 ^ 128 - 1) ≡ min (q * f + more) (2 ^ 128 - 1)
held q f more h = elim (cases_lt q (2 ^ 128)) [
  | inl k ↦ let e : min q (2 ^ 128 - 1) ≡ q = omega arith in ap (λ n. min (min (n * f) (2 ^ 128 - 1) + more) (2 ^ 128 - 1)) e ∙ omega arith
  | inr k ↦
      let e : min q (2 ^ 128 - 1) ≡ 2 ^ 128 - 1 = omega arith in
      let a : q ≤ q * f = le-mul_of_pos_right q h in
      let b : 2 ^ 128 - 1 ≤ (2 ^ 128 - 1) * f = le-mul_of_pos_right (2 ^ 128 - 1) h in
      ap (λ n. min (min (n * f) (2 ^ 128 - 1) + more) (2 ^ 128 - 1)) e ∙ omega arith
]

-- what `continued` answers
pub continued_quotient : (n d f more left q r m t : ℕ) → 0 < f → left < d → q ≡ min (n / d) (2 ^ 128 - 1) → r ≡ n % d → more * d + left ≡ r * f → m ≡ min (q * f) (2 ^ 128 - 1) → t ≡ min (m + more) (2 ^ 128 - 1)
    → t ≡ min (n * f / d) (2 ^ 128 - 1)
continued_quotient n d f more left q r m t h l e g v w x =
    x ∙ ap (λ k. min (k + more) (2 ^ 128 - 1)) (w ∙ ap (λ k. min (k * f) (2 ^ 128 - 1)) e)
    ∙ held (n / d) f more h
    ∙ ap (λ k. min k (2 ^ 128 - 1)) (sym (raised_div n d f more left l (v ∙ ap (λ k. k * f) g)))

pub continued_rest : (n d f more left r : ℕ) → left < d → r ≡ n % d → more * d + left ≡ r * f → left ≡ (n * f) % d
continued_rest n d f more left r l g v = sym (raised_mod n d f more left l (v ∙ ap (λ k. k * f) g))

-- first some zeros, then the others
pub zeros_apart : (n i z : ℕ) → i ≤ z → n * 10 ^ i * 10 ^ (z - i) ≡ n * 10 ^ z
zeros_apart n i z h =
    let e : i + (z - i) ≡ z = omega arith in
    mul_assoc n (10 ^ i) (10 ^ (z - i)) ∙ ap (λ k. n * k) (sym (pow-add 10 i (z - i)) ∙ ap (λ k. 10 ^ k) e)

-- rounding to the nearest, from the quotient and the rest
pub nearest_up : (n d : ℕ) → 0 < d → d ≤ 2 * (n % d) → nearest n d ≡ n / d + 1
nearest_up n d h k =
    let s : n / d * d + n % d ≡ n = div-add-mod' n d in
    let r : n % d < d = mod-lt n h in
    let e : 2 * n + d ≡ (n / d + 1) * (2 * d) + (2 * (n % d) - d) = omega arith in
    ap (λ m. m / (2 * d)) e ∙ div-mul-add (n / d + 1) (2 * d) (2 * (n % d) - d) (omega arith)

pub nearest_down : (n d : ℕ) → 0 < d → 2 * (n % d) < d → nearest n d ≡ n / d
nearest_down n d h k =
    let s : n / d * d + n % d ≡ n = div-add-mod' n d in
    let e : 2 * n + d ≡ n / d * (2 * d) + (2 * (n % d) + d) = omega arith in
    ap (λ m. m / (2 * d)) e ∙ div-mul-add (n / d) (2 * d) (2 * (n % d) + d) (omega arith)

-- a factor of both counts for nothing
pub nearest_factor : (n d k : ℕ) → 0 < k → nearest (n * k) (d * k) ≡ nearest n d
nearest_factor n d k h =
    let a : 2 * (n * k) + d * k ≡ (2 * n + d) * k = omega arith in
    let b : 2 * (d * k) ≡ 2 * d * k = omega arith in
    ap (λ m. m / (2 * (d * k))) a ∙ ap (λ m. (2 * n + d) * k / m) b ∙ mul-div-mul_right (2 * n + d) (2 * d) h

-- the quotient's units, without the zeros that both sizes have
pub fewer_zeros : (a b s sa sb : ℕ) → sa ≤ s → nearest (a * 10 ^ (s + sb)) (b * 10 ^ sa) ≡ nearest (a * 10 ^ (s + sb - sa)) b
fewer_zeros a b s sa sb h =
    let e : s + sb - sa + sa ≡ s + sb = omega arith in
    ap (λ k. nearest (a * k) (b * 10 ^ sa)) (ap (λ k. 10 ^ k) (sym e) ∙ pow-add 10 (s + sb - sa) sa)
    ∙ ap (λ k. nearest k (b * 10 ^ sa)) (sym (mul_assoc a (10 ^ (s + sb - sa)) (10 ^ sa)))
    ∙ nearest_factor (a * 10 ^ (s + sb - sa)) b (10 ^ sa) (pow_positive sa)

-- a small size and a divisor that stands still
pub still_mod : (a d : ℕ) → a < 10 ^ 38 → a % min d (2 ^ 128 - 1) ≡ a % d
still_mod a d h = elim (cases_lt d (2 ^ 128)) [
  | inl k ↦ let e : min d (2 ^ 128 - 1) ≡ d = omega arith in ap (λ m. a % m) e
  | inr k ↦ let e : min d (2 ^ 128 - 1) ≡ 2 ^ 128 - 1 = omega arith in ap (λ m. a % m) e ∙ small_mod a (2 ^ 128 - 1) (omega arith) ∙ sym (small_mod a d (omega arith))
]
  where
    small_mod : (m n : ℕ) → m < n → m % n ≡ m
    small_mod m n l =
        let s : m / n * n + m % n ≡ m = div-add-mod' m n in
        let z : m / n ≡ 0 = div-eq_of_lt l in
        let t : m / n * n ≡ 0 = ap (λ k. k * n) z ∙ omega arith in
        omega arith

pub still_div : (a d : ℕ) → a < 10 ^ 38 → a / min d (2 ^ 128 - 1) ≡ min (a / d) (2 ^ 128 - 1)
still_div a d h =
    let w : a / d ≤ a = div-le_self a d in
    let v : min (a / d) (2 ^ 128 - 1) ≡ a / d = omega arith in
    elim (cases_lt d (2 ^ 128)) [
      | inl k ↦ let e : min d (2 ^ 128 - 1) ≡ d = omega arith in ap (λ m. a / m) e ∙ sym v
      | inr k ↦
          let e : min d (2 ^ 128 - 1) ≡ 2 ^ 128 - 1 = omega arith in
          let x : a / (2 ^ 128 - 1) ≡ 0 = div-eq_of_lt (omega arith) in
          let y : a / d ≡ 0 = div-eq_of_lt (omega arith) in
          ap (λ m. a / m) e ∙ x ∙ sym (v ∙ y)
    ]

pub nearest_le : (n d : ℕ) → 0 < d → nearest n d ≤ n
nearest_le n d h =
    let s : n / d * d + n % d ≡ n = div-add-mod' n d in
    let w : n / d ≤ n / d * d = le-mul_of_pos_right (n / d) h in
    elim (cases_lt (2 * (n % d)) d) [
      | inl k ↦ let e : nearest n d ≡ n / d = nearest_down n d h k in omega arith
      | inr k ↦ let e : nearest n d ≡ n / d + 1 = nearest_up n d h k in omega arith
    ]

-- a whole multiple is its quotient
pub nearest_whole : (n d : ℕ) → 0 < d → nearest (n * d) d ≡ n
nearest_whole n d h =
    let e : 2 * (n * d) + d ≡ n * (2 * d) + d = omega arith in
    ap (λ m. m / (2 * d)) e ∙ div-mul-add n (2 * d) d (omega arith)

-- what is below the half of the divisor
pub nearest_zero : (n d : ℕ) → 2 * n < d → nearest n d ≡ 0
nearest_zero n d h = div-eq_of_lt (omega arith)
