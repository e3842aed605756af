-- What spells an operator (manual 4.1.3).
use Rattle.std.specs.Prelude.{ℕ, ◌-◌, List, [], ◌∷◌, Bool, false, ◌==◌, ◌&&◌, ◌||◌, not, length, nat_lt, slice_index, codes}
use Rattle.std.specs.List.{list_all, list_any}
use Rattle.std.specs.Str.{bytes_eq}

-- a character of operators
abbrev pub is_operator_byte : ℕ → Bool
is_operator_byte b = list_any (λ c. c == b) (codes "+-*/<>=~!@#%^&|`?")

-- a character that lets an operator end in + or -
abbrev pub is_special_byte : ℕ → Bool
is_special_byte b = list_any (λ c. c == b) (codes "~!@#%^&|`?")

-- + or -
abbrev pub is_sign : ℕ → Bool
is_sign b = b == 43 || b == 45

-- the byte is the first of the list
abbrev pub begins_with : ℕ → List ℕ → Bool
begins_with b [] = false
begins_with b (x ∷ xs) = x == b

-- somewhere the first byte stands right before the second
abbrev pub has_pair : ℕ → ℕ → List ℕ → Bool
has_pair first second [] = false
has_pair first second (x ∷ xs) = (x == first && begins_with second xs) || has_pair first second xs

-- a last + or - is part of the operator
abbrev pub may_end : List ℕ → Bool
may_end name = length name == 1 || not (is_sign (slice_index name (length name - 1))) || list_any is_special_byte name

-- One whole operator token: its characters, without `--` and `/*`, which begin a comment.
abbrev pub is_operator : List ℕ → Bool
is_operator name = nat_lt 0 (length name) && list_all is_operator_byte name && not (has_pair 45 45 name) && not (has_pair 47 42 name) && may_end name

-- `=>` names no operator, and `!=` is another spelling of `<>`
abbrev pub is_operator_name : List ℕ → Bool
is_operator_name name = is_operator name && not (bytes_eq name (codes "=>")) && not (bytes_eq name (codes "!="))
