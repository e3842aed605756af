-- Rounding of numerics to whole numbers, decimals and whole places, their scale, and the casts (manual 8.1.2, 9.3).
use Rattle.std.specs.Prelude.{◌≡◌, ◌≢◌, ℕ, suc, ◌+◌, ◌*◌, ◌/◌, ◌%◌, ◌^◌, ◌<◌, ℤ, pos, negsuc, neg_ℤ, if◌then◌else◌, Result, Ok, Err}
use Rattle.std.specs.Int.{int_div_euclid}
use Rattle.xp_base.specs.declared.codes.EvalError.{EvalError}
use Rattle.xp_base.specs.declared.codes.EvalError.TheVariants.{OutOfRange}
use Rattle.xp_base.specs.declared.decimal.Dec.{Dec}
use Rattle.xp_value.specs.Order.{units}
use Rattle.xp_value.specs.Representation.{has_bits}
use Rattle.xp_numeric.specs.Numbers.{made, signed, whole}
use Rattle.xp_numeric.specs.Quotients.{nearest}

-- the greatest whole number that isn't above x
abbrev pub floor : Dec → Result Dec EvalError
floor x = made (int_div_euclid (whole x) (pos (10 ^ x.scale))) 0

-- the least whole number that isn't below x
abbrev pub ceiling : Dec → Result Dec EvalError
ceiling x = made (neg_ℤ (int_div_euclid (neg_ℤ (whole x)) (pos (10 ^ x.scale)))) 0

-- n decimals, or where n is below 0 no decimals and so many zeros before the point; `how` divides the size of x
abbrev pub to_places : (ℕ → ℕ → ℕ) → ℤ → Dec → Result Dec EvalError
to_places how (pos n) x = made (signed x.neg (how (x.coef * 10 ^ n) (10 ^ x.scale))) n
to_places how (negsuc n) x = made (signed x.neg (how x.coef (10 ^ (x.scale + suc n)) * 10 ^ suc n)) 0

-- half away from zero
abbrev pub rounded : ℤ → Dec → Result Dec EvalError
rounded n x = to_places nearest n x

-- toward zero
abbrev pub truncated : ℤ → Dec → Result Dec EvalError
truncated n x = to_places ◌/◌ n x

-- y is x without zeros at the end of its decimals
pub record IsTrimmed (x y : Dec) : Type 0 where
  pub value : units y ≡ units x
  pub last : 0 < y.scale → y.coef % 10 ≢ 0

-- rounded to a whole number, where that is a signed number of so many bits
abbrev pub as_int : ℕ → Dec → Result ℤ EvalError
as_int bits x = let z = signed x.neg (nearest x.coef (10 ^ x.scale)) in if has_bits bits z then Ok z else Err OutOfRange
