-- Results one after the other from the left, up to and with the first error.
use Rattle.std.specs.Prelude.{List, [], ◌∷◌, Result, Ok, Err}

abbrev pub and_then : {T U E : Type 0} → Result T E → (T → Result U E) → Result U E
and_then (Ok x) f = f x
and_then (Err e) f = Err e

-- a first result and the others
abbrev pub joined : {T E : Type 0} → Result T E → Result (List T) E → Result (List T) E
joined first others = and_then first (λ x. and_then others (λ xs. Ok (x ∷ xs)))

-- what a function makes of each element, or the first error
abbrev pub each : {S T E : Type 0} → (S → Result T E) → List S → Result (List T) E
each f [] = Ok []
each f (x ∷ xs) = joined (f x) (each f xs)
