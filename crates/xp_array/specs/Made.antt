-- Arrays made of arrays (manual 9.19).
use Rattle.std.specs.Prelude.{◌-◌, ℤ, pos, negsuc, nat_le, ◌&&◌, not, if◌then◌else◌, List, [], ◌∷◌, ◌++◌, length, take, map, filter, sum_by, Option, Some, None, Result, Ok, Err}
use Rattle.xp_base.specs.FromLeft.{and_then}
use Rattle.xp_base.specs.declared.codes.EvalError.TheVariants as error
use Rattle.xp_base.specs.declared.limits.TheConstants.{ELEMENT_LIMIT, VALUE_LIMIT}
use Rattle.xp_characters.specs.Faults.{too_large}
use Rattle.xp_characters.specs.declared.fault.TextFault.{TextFault}
use Rattle.xp_characters.specs.declared.fault.TextFault.TheVariants as fault
use Rattle.xp_value.specs.Order.{is_same}
use Rattle.xp_value.specs.Representation.{byte_count}
use Rattle.xp_value.specs.declared.value.Value.{Value}

-- the array of these elements, where they are no more, and have no more bytes, than a value may have
abbrev pub with_limit : List Value → Result (List Value) TextFault
with_limit elements = if nat_le (length elements) ELEMENT_LIMIT && nat_le (sum_by byte_count elements) VALUE_LIMIT then Ok elements else Err too_large

-- a null array has no elements
abbrev pub or_empty : Option (List Value) → List Value
or_empty None = []
or_empty (Some elements) = elements

abbrev pub append : Option (List Value) → Value → Result (List Value) TextFault
append a element = with_limit (or_empty a ++ element ∷ [])

abbrev pub prepend : Value → Option (List Value) → Result (List Value) TextFault
prepend element a = with_limit (element ∷ or_empty a)

-- an array that isn't null
abbrev pub some : Result (List Value) TextFault → Result (Option (List Value)) TextFault
some made = and_then made (λ elements. Ok (Some elements))

-- a null array is as if it were absent
abbrev pub cat : Option (List Value) → Option (List Value) → Result (Option (List Value)) TextFault
cat None None = Ok None
cat a b = some (with_limit (or_empty a ++ or_empty b))

-- without the elements that are this value, of which null is one
abbrev pub removed : List Value → Value → List Value
removed elements value = filter (λ element. not (is_same element value)) elements

-- each element that is `old` by `new`
abbrev pub replaced : List Value → (old new : Value) → List Value
replaced elements old new = map (λ element. if is_same element old then new else element) elements

abbrev pub replace : Option (List Value) → (old new : Value) → Result (Option (List Value)) TextFault
replace None old new = Ok None
replace (Some elements) old new = some (with_limit (replaced elements old new))

-- without the last n elements, where there are so many
abbrev pub trimmed : List Value → ℤ → Result (List Value) TextFault
trimmed elements (pos n) = if nat_le n (length elements) then Ok (take (length elements - n) elements) else Err (fault.Raised error.BadSubscript)
trimmed elements (negsuc n) = Err (fault.Raised error.BadSubscript)
