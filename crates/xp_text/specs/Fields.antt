-- Texts between delimiters, and what stands in their place (manual 9.4).
use Rattle.std.specs.Prelude.{ℕ, zero, suc, ◌-◌, ℤ, pos, negsuc, nat_le, if◌then◌else◌, List, [], ◌∷◌, ◌++◌, length, slice_index_or, Bool, false, ◌==◌, Result, Ok, Err}
use Rattle.std.specs.Str.{chars, encode_utf8_all}
use Rattle.xp_characters.specs.declared.fault.TextFault.{TextFault}
use Rattle.xp_characters.specs.Faults.{bad_parameter}
use Rattle.xp_characters.specs.Search.{begins}

-- an element before the first of some fields
abbrev pub in_first : ℕ → List (List ℕ) → List (List ℕ)
in_first x [] = (x ∷ []) ∷ []
in_first x (field ∷ fields) = (x ∷ field) ∷ fields

-- The fields between delimiters, which are taken from left to right, so that no two overlap.
-- `rest` counts the elements of a delimiter that are still to come.
abbrev pub fields_from : (delimiter : List ℕ) → (rest : ℕ) → List ℕ → List (List ℕ)
fields_from delimiter rest [] = [] ∷ []
fields_from delimiter (suc rest) (x ∷ xs) = fields_from delimiter rest xs
fields_from delimiter zero (x ∷ xs) =
    if begins (x ∷ xs) delimiter then [] ∷ fields_from delimiter (length delimiter - 1) xs
    else in_first x (fields_from delimiter zero xs)

-- an empty delimiter divides nothing
abbrev pub fields : (delimiter : List ℕ) → List ℕ → List (List ℕ)
fields [] xs = xs ∷ []
fields (d ∷ delimiter) xs = fields_from (d ∷ delimiter) zero xs

-- the fields with `between` between each two
abbrev pub joined : (between : List ℕ) → List (List ℕ) → List ℕ
joined between [] = []
joined between (field ∷ []) = field
joined between (field ∷ other ∷ others) = field ++ between ++ joined between (other ∷ others)

-- each occurrence of `old`, from left to right, by `new`
abbrev pub replace : (xs old new : List ℕ) → List ℕ
replace xs old new = joined new (fields old xs)

abbrev pub is_zero : ℤ → Bool
is_zero (pos n) = n == 0
is_zero (negsuc n) = false

-- of so many fields, how many stand before the one at a place that counts from 1, below 0 from the
-- end; all, where there is no such field
abbrev pub field_place : ℕ → ℤ → ℕ
field_place count (pos n) = n - 1
field_place count (negsuc n) = if nat_le (suc n) count then count - suc n else count

-- the field there; none is empty
abbrev pub field_at : List (List ℕ) → ℤ → List ℕ
field_at fields n = slice_index_or fields (field_place (length fields) n) []

-- there is no field 0
abbrev pub split_part : List ℕ → List ℕ → ℤ → Result (List ℕ) TextFault
split_part text delimiter n = if is_zero n then Err bad_parameter else Ok (encode_utf8_all (field_at (fields (chars delimiter) (chars text)) n))
