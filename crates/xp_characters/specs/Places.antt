-- Parts of lists by their places, which count from 1 (manual 9.4, 9.5): of characters and of bytes.
use Rattle.std.specs.Prelude.{ℕ, ◌-◌, ℤ, pos, negsuc, ◌+ℤ◌, int_lt, if◌then◌else◌, List, take, drop, Result, Ok, Err}
use Rattle.xp_base.specs.declared.codes.EvalError.TheVariants as error
use Rattle.xp_characters.specs.declared.fault.TextFault.{TextFault}
use Rattle.xp_characters.specs.declared.fault.TextFault.TheVariants as fault

-- how many elements stand before a place; none before one below 1
abbrev pub before : ℤ → ℕ
before (pos n) = n - 1
before (negsuc n) = 0

-- from a place on
abbrev pub from : List ℕ → ℤ → List ℕ
from xs n = drop (before n) xs

-- from a place up to another one, which is left out
abbrev pub between : List ℕ → ℤ → ℤ → List ℕ
between xs n end = take (before end - before n) (drop (before n) xs)

-- so many places from a place on, of which those below 1 are empty; the count may not be below 0
abbrev pub substr : List ℕ → ℤ → ℤ → Result (List ℕ) TextFault
substr xs n count = if int_lt count (pos 0) then Err (fault.Raised error.Substring) else Ok (between xs n (n +ℤ count))
