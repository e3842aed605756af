-- Sizes divided by powers of ten, and zeros that are taken off.
use Rattle.std.proofs.Common.{◌≡◌, ℕ, ◌+◌, ◌-◌, ◌*◌, ◌/◌, ◌%◌, ◌^◌, ◌<◌, ◌≤◌, sym, ap, ◌∙◌, subst, arith}
use Rattle.std.proofs.lemmas.Nat.{pow-add, div-add-mod', mod-mul-add}
use Rattle.std.proofs.Math.Nat.{mul_assoc, mul-div-mul_right, mul-div_cancel, div-eq_of_lt, pow-le-pow_right}
use Rattle.xp_value.proofs.Powers.{pow_positive}
use Rattle.xp_numeric.specs.declared.places.Rounding.{Rounding}
use Rattle.xp_numeric.specs.declared.places.Rounding.TheVariants.{Nearest, TowardZero}
use Rattle.xp_numeric.specs.inner.Dividing.{division}
use Rattle.xp_numeric.proofs.Division.{nearest_factor, nearest_whole, nearest_zero}

division_factor : (r : Rounding) (n d k : ℕ) → 0 < k → division r (n * k) (d * k) ≡ division r n d
division_factor Nearest n d k h = nearest_factor n d k h
division_factor TowardZero n d k h = mul-div-mul_right n d h

division_whole : (r : Rounding) (n d : ℕ) → 0 < d → division r (n * d) d ≡ n
division_whole Nearest n d h = nearest_whole n d h
division_whole TowardZero n d h = mul-div_cancel n h

division_zero : (r : Rounding) (n d : ℕ) → 2 * n < d → division r n d ≡ 0
division_zero Nearest n d h = nearest_zero n d h
division_zero TowardZero n d h = div-eq_of_lt (omega arith)

power_apart : (i j : ℕ) → i ≤ j → 10 ^ j ≡ 10 ^ (j - i) * 10 ^ i
power_apart i j h = let e : j - i + i ≡ j = omega arith in ap (λ k. 10 ^ k) (sym e) ∙ pow-add 10 (j - i) i

-- fewer decimals than there are, and as many or more
pub decimals_fewer : (r : Rounding) (c n s : ℕ) → n ≤ s → division r (c * 10 ^ n) (10 ^ s) ≡ division r c (10 ^ (s - n))
decimals_fewer r c n s h = ap (division r (c * 10 ^ n)) (power_apart n s h) ∙ division_factor r c (10 ^ (s - n)) (10 ^ n) (pow_positive n)

pub decimals_more : (r : Rounding) (c n s : ℕ) → s ≤ n → division r (c * 10 ^ n) (10 ^ s) ≡ c * 10 ^ (n - s)
decimals_more r c n s h =
    ap (λ k. division r k (10 ^ s)) (ap (λ k. c * k) (power_apart s n h) ∙ sym (mul_assoc c (10 ^ (n - s)) (10 ^ s)))
    ∙ division_whole r (c * 10 ^ (n - s)) (10 ^ s) (pow_positive s)

-- more zeros than a numeric has digits
pub nothing_left : (r : Rounding) (c z : ℕ) → c < 10 ^ 38 → 38 < z → division r c (10 ^ z) ≡ 0
nothing_left r c z h k = let l : 39 ≤ z = omega arith in let p : 10 ^ 39 ≤ 10 ^ z = pow-le-pow_right (omega arith) l in division_zero r c (10 ^ z) (omega arith)

-- a size whose last digits are zeros, without them
pub fewer_units : (c u s z : ℕ) → u ≡ 10 ^ z → z ≤ s → s ≤ 38 → c % u ≡ 0 → c / u * 10 ^ (38 - (s - z)) ≡ c * 10 ^ (38 - s)
fewer_units c u s z e h k g =
    let f : 38 - (s - z) ≡ z + (38 - s) = omega arith in
    let w : c / u * u + c % u ≡ c = div-add-mod' c u in
    ap (λ n. c / u * n) (ap (λ n. 10 ^ n) f ∙ pow-add 10 z (38 - s) ∙ ap (λ n. n * 10 ^ (38 - s)) (sym e))
    ∙ sym (mul_assoc (c / u) u (10 ^ (38 - s)))
    ∙ ap (λ n. n * 10 ^ (38 - s)) (let v : c / u * u ≡ c = omega arith in v)

pub twice_zeros : (c u z : ℕ) → u ≡ 10 ^ z → c % u ≡ 0 → c / u % 10 ^ z ≡ 0 → c % 10 ^ (2 * z) ≡ 0
twice_zeros c u z e g h =
    let w : c / u * u + c % u ≡ c = div-add-mod' c u in
    let h' : c / u % u ≡ 0 = ap (λ k. c / u % k) e ∙ h in
    let v : c / u / u * u + c / u % u ≡ c / u = div-add-mod' (c / u) u in
    let t : c / u / u * u ≡ c / u = omega arith in
    let a : c ≡ c / u / u * u * u = sym (ap (λ k. k * u) t ∙ omega arith) in
    let z' : 2 * z ≡ z + z = omega arith in
    let b : 10 ^ (2 * z) ≡ u * u = ap (λ k. 10 ^ k) z' ∙ pow-add 10 z z ∙ ap (λ k. k * 10 ^ z) (sym e) ∙ ap (λ k. u * k) (sym e) in
    let p : 0 < u * u = subst (λ k. 0 < k) b (pow_positive (2 * z)) in
    let d : c ≡ c / u / u * (u * u) + 0 = a ∙ mul_assoc (c / u / u) u u ∙ omega arith in
    ap (λ k. c % k) b ∙ ap (λ k. k % (u * u)) d ∙ mod-mul-add (c / u / u) (u * u) 0 p
