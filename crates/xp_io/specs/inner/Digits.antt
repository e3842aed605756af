-- How the code reads digits: one by one, with a number that stands still at the greatest u64.
use Rattle.std.specs.Prelude.{ℕ, ◌+◌, ◌-◌, ◌*◌, ◌^◌, min, List, [], ◌∷◌, ◌==◌, ◌&&◌, if◌then◌else◌, Option, Some, None}
use Rattle.std.specs.Char.{digit_value, is_digit}
use Rattle.xp_lexer.specs.Bytes.{first}

abbrev pub capped : ℕ → ℕ
capped n = min n (2 ^ 64 - 1)

abbrev pub extended : ℕ → ℕ → ℕ → ℕ
extended base value digit = capped (capped (value * base) + digit)

-- the number of the value and the digits that follow it
abbrev pub read : ℕ → ℕ → List ℕ → Option ℕ
read base value [] = Some value
read base value (b ∷ text) =
    if is_digit b base then read base (extended base value (digit_value b)) text
    else (if b == 95 && is_digit (first text) base then read base value text else None)
