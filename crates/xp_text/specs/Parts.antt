-- The first and last characters of a text, and texts brought to a length (manual 9.4).
use Rattle.std.specs.Prelude.{ℕ, suc, ◌-◌, ℤ, pos, negsuc, List, ◌++◌, length, take, drop}
use Rattle.xp_text.specs.Made.{repeated}

-- of so many, how many the first n are; below 0, all but the last ones
abbrev pub first_count : ℕ → ℤ → ℕ
first_count size (pos n) = n
first_count size (negsuc n) = size - suc n

abbrev pub left : List ℕ → ℤ → List ℕ
left cs n = take (first_count (length cs) n) cs

-- of so many, how many stand before the last n; below 0, behind the first ones
abbrev pub before_last : ℕ → ℤ → ℕ
before_last size (pos n) = size - n
before_last size (negsuc n) = suc n

abbrev pub right : List ℕ → ℤ → List ℕ
right cs n = drop (before_last (length cs) n) cs

-- so many characters of the fill, which is repeated; an empty fill adds nothing
abbrev pub padding : List ℕ → ℕ → List ℕ
padding fill n = take n (repeated n fill)

-- n characters, with the fill before them; what is longer is cut at its right end
abbrev pub lpad : List ℕ → ℕ → List ℕ → List ℕ
lpad cs n fill = padding fill (n - length cs) ++ take n cs

-- the same with the fill behind them
abbrev pub rpad : List ℕ → ℕ → List ℕ → List ℕ
rpad cs n fill = take n cs ++ padding fill (n - length cs)
