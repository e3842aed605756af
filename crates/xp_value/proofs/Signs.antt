-- Numbers of different signs.
use Rattle.std.proofs.Common.{◌≡◌, ℕ, ◌-◌, ◌*◌, ◌^◌, ◌<◌, true, false, pos, refl, zero, suc, arith}
use Rattle.std.specs.Prelude.{neg_ℤ}
use Rattle.std.specs.declared.cmp.Ordering.TheVariants.{Less, Greater}
use Rattle.std.specs.Ordering.{int_cmp}
use Rattle.std.proofs.Math.Nat.{mul-pos}
use Rattle.xp_base.specs.declared.decimal.Dec.{Dec}
use Rattle.xp_value.specs.Order.{units}
use Rattle.xp_value.proofs.Powers.{pow_positive}

below_zero : (n m : ℕ) → 0 < n → Less ≡ int_cmp (neg_ℤ (pos n)) (pos m)
below_zero zero m h = absurd (omega arith)
below_zero (suc n) m h = refl

above_zero : (n m : ℕ) → 0 < n → Greater ≡ int_cmp (pos m) (neg_ℤ (pos n))
above_zero zero m h = absurd (omega arith)
above_zero (suc n) m h = refl

pub negative_first : (x y : Dec) → x.neg ≡ true → y.neg ≡ false → Less ≡ int_cmp (units x) (units y)
negative_first x y e f = rw (e, f) (below_zero (x.coef * 10 ^ (38 - x.scale)) (y.coef * 10 ^ (38 - y.scale)) (mul-pos (x.no_negative_zero e) (pow_positive (38 - x.scale))))

pub negative_second : (x y : Dec) → x.neg ≡ false → y.neg ≡ true → Greater ≡ int_cmp (units x) (units y)
negative_second x y e f = rw (e, f) (above_zero (y.coef * 10 ^ (38 - y.scale)) (x.coef * 10 ^ (38 - x.scale)) (mul-pos (y.no_negative_zero f) (pow_positive (38 - y.scale))))
