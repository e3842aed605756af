-- How many decimals a quotient has (manual 9.3), and quotients of sizes that are rounded.
use Rattle.std.specs.Prelude.{ℕ, ◌+◌, ◌-◌, ◌*◌, ◌/◌, ◌^◌, ◌==◌, nat_le, min, max, if◌then◌else◌, List, length, slice_index}
use Rattle.std.specs.Int.Digits.{digits_of}
use Rattle.xp_base.specs.declared.decimal.Dec.{Dec}

-- to the nearest whole number, half away from zero
abbrev pub nearest : ℕ → ℕ → ℕ
nearest n d = (2 * n + d) / (2 * d)

-- the size in base 10000, the first digit not zero: ten digits, which are forty decimals, stand behind the point
abbrev pub base_digits : Dec → List ℕ
base_digits x = digits_of 10000 (x.coef * 10 ^ (40 - x.scale))

-- the weight of the first digit, counted from the tenth behind the point: units have 10, and so has zero
abbrev pub weight : Dec → ℕ
weight x = if x.coef == 0 then 10 else length (base_digits x) - 1

-- the first digit, of zero 0
abbrev pub first_digit : Dec → ℕ
first_digit x = slice_index (base_digits x) 0

-- 1 where the quotient's first digit has a weight less than the weights of the two first digits tell
abbrev pub lower : Dec → Dec → ℕ
lower x y = if nat_le (first_digit x) (first_digit y) then 1 else 0

-- with q = weight x - weight y - lower x y: the greatest of 16 - 4q and the two scales, at most 38
abbrev pub quotient_scale : Dec → Dec → ℕ
quotient_scale x y = min 38 (max (16 + 4 * (weight y + lower x y) - 4 * weight x) (max x.scale y.scale))
