-- The elements of an array (manual 8.15).
use Rattle.std.specs.Prelude.{List, [], ◌∷◌, Option, Some, None}
use Rattle.xp_value.specs.declared.value.Value.{Value, Arr', Row_of-Value, end_of-Value, more_of-Value}

abbrev pub row_values : {m : _} → Row_of-Value m → List Value
row_values end_of-Value = []
row_values (more_of-Value v rest) = v ∷ row_values rest

-- None where the value is no array
abbrev pub elements_of : Value → Option (List Value)
elements_of (Arr' shape elements) = Some (row_values elements)
elements_of _ = None
