-- Sums, products, quotients and signs of numerics (manual 9.3).
use Rattle.std.specs.Prelude.{ℕ, Bool, not, ◌+◌, ◌*◌, ◌^◌, ◌==◌, max, pos, ◌+ℤ◌, ◌-ℤ◌, ◌*ℤ◌, neg_ℤ, int_div, int_rem, if◌then◌else◌, Result, Err}
use Rattle.std.specs.Bool.{beq}
use Rattle.std.specs.Int.{int_signum}
use Rattle.xp_base.specs.declared.codes.EvalError.{EvalError}
use Rattle.xp_base.specs.declared.codes.EvalError.TheVariants.{DivisionByZero}
use Rattle.xp_base.specs.declared.decimal.Dec.{Dec}
use Rattle.xp_numeric.specs.Numbers.{at, made, signed, whole}
use Rattle.xp_numeric.specs.Quotients.{nearest, quotient_scale}

-- the greater scale
abbrev pub common : Dec → Dec → ℕ
common x y = max x.scale y.scale

abbrev pub sum : Dec → Dec → Result Dec EvalError
sum x y = made (at (common x y) x +ℤ at (common x y) y) (common x y)

abbrev pub difference : Dec → Dec → Result Dec EvalError
difference x y = made (at (common x y) x -ℤ at (common x y) y) (common x y)

abbrev pub product : Dec → Dec → Result Dec EvalError
product x y = made (whole x *ℤ whole y) (x.scale + y.scale)

-- one is negative and the other isn't
abbrev pub differ : Bool → Bool → Bool
differ n m = not (beq n m)

-- x / y with s decimals, rounded: negative where the signs differ
abbrev pub quotient_at : ℕ → Dec → Dec → Result Dec EvalError
quotient_at s x y = made (signed (differ x.neg y.neg) (nearest (x.coef * 10 ^ (s + y.scale)) (y.coef * 10 ^ x.scale))) s

abbrev pub quotient : Dec → Dec → Result Dec EvalError
quotient x y = if y.coef == 0 then Err DivisionByZero else quotient_at (quotient_scale x y) x y

-- x - y * trunc(x / y): with the dividend's sign
abbrev pub remainder : Dec → Dec → Result Dec EvalError
remainder x y = if y.coef == 0 then Err DivisionByZero else made (int_rem (at (common x y) x) (at (common x y) y)) (common x y)

-- trunc(x / y)
abbrev pub whole_quotient : Dec → Dec → Result Dec EvalError
whole_quotient x y = if y.coef == 0 then Err DivisionByZero else made (int_div (at (common x y) x) (at (common x y) y)) 0

abbrev pub negation : Dec → Result Dec EvalError
negation x = made (neg_ℤ (whole x)) x.scale

abbrev pub absolute : Dec → Result Dec EvalError
absolute x = made (pos x.coef) x.scale

-- -1, 0 or 1
abbrev pub sign : Dec → Result Dec EvalError
sign x = made (int_signum (whole x)) 0
