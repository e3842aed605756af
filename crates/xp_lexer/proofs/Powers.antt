-- Products with powers of ten that stand still at 10 ^ 38.
use Rattle.std.proofs.Common.{◌≡◌, ◌≢◌, ℕ, ◌-◌, ◌*◌, ◌^◌, ◌<◌, ◌≤◌, min, refl, arith, lit<}
use Rattle.std.proofs.Math.Nat.{pow-le-pow_right, mul-le-mul_right}
use Rattle.xp_lexer.specs.inner.Cutting.{raised}

pub ten_fits : (k : ℕ) → k ≤ 38 → 10 ^ k < 2 ^ 128
ten_fits k h = let most : 10 ^ k ≤ 10 ^ 38 = pow-le-pow_right (lit< tt) h in omega arith

pub raised_zero : (value k : ℕ) → value ≡ 0 → raised value k ≡ 0
unfolding raised
raised_zero value k e = rw e (let none : 0 * 10 ^ k ≡ 0 = omega arith in rw none refl)

pub raised_full : (value k : ℕ) → value ≢ 0 → 38 < k → raised value k ≡ 10 ^ 38
unfolding raised
raised_full value k some many =
    let below : 38 ≤ k = omega arith in
    let most : 10 ^ 38 ≤ 10 ^ k = pow-le-pow_right (lit< tt) below in
    let more : 1 * 10 ^ k ≤ value * 10 ^ k = mul-le-mul_right (10 ^ k) (omega (arith, some)) in
    omega arith

pub raised_some : (value k : ℕ) → raised value k ≡ min (min (value * 10 ^ k) (2 ^ 128 - 1)) (10 ^ 38)
unfolding raised
raised_some value k = omega arith
