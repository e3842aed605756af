-- Lengths and dimensions of arrays, whose subscripts begin at 1 (manual 9.19).
use Rattle.std.specs.Prelude.{ℕ, ℤ, pos, negsuc, ◌==◌, if◌then◌else◌, List, [], length, Option, Some, None}
use Rattle.xp_value.specs.declared.value.Value.{Value}

-- an empty array has none
abbrev pub dimensions : List Value → Option ℕ
dimensions [] = None
dimensions elements = Some 1

-- of an array that isn't empty, in its one dimension
abbrev pub in_dimension : ℤ → List Value → ℕ → Option ℕ
in_dimension (negsuc n) elements said = None
in_dimension (pos n) [] said = None
in_dimension (pos n) elements said = if n == 1 then Some said else None

-- how many elements the dimension has
abbrev pub length_in : List Value → ℤ → Option ℕ
length_in elements dimension = in_dimension dimension elements (length elements)

-- the first subscript
abbrev pub lower_in : List Value → ℤ → Option ℕ
lower_in elements dimension = in_dimension dimension elements 1
