-- Sets of outcomes, and what may come of parts each of which has such a set.
use Rattle.std.specs.Prelude.{◌≡◌, ◌⊎◌, List, Bool, true, false, Result, Ok, Err}
use Rattle.xp_base.specs.declared.codes.EvalError.{EvalError}
use Rattle.xp_value.specs.declared.value.Value.{Value}
use Rattle.xp_meaning.specs.Truth.{Outcome}

-- whether an outcome is in the set
abbrev pub Outcomes : Type 1
Outcomes = Outcome → Type 0

abbrev pub Errors : Type 1
Errors = EvalError → Type 0

-- this outcome alone
abbrev pub Is : Outcome → Outcomes
Is one o = o ≡ one

-- these errors, and no value
abbrev pub Raises : Errors → Outcomes
Raises errors (Ok v) = ⊥
Raises errors (Err e) = errors e

abbrev pub errors_of : Outcomes → Errors
errors_of part e = part (Err e)

-- the one or the other
abbrev pub Choice : Bool → Outcomes → Outcomes → Outcomes
Choice true this that = this
Choice false this that = that

-- an error of the part, or what comes behind a value of it
abbrev pub InTurn : Outcomes → (Value → Outcomes) → Outcomes
InTurn part next o = Raises (errors_of part) o ⊎ ((x : Value) × part (Ok x) × next x o)

-- an error of the part, or what the step makes of a value of it
abbrev pub OfOne : Outcomes → (Value → Outcome) → Outcomes
OfOne part step o = InTurn part (λ x. Is (step x)) o

-- an error of either part, or what the step makes of a value of each
abbrev pub OfTwo : Outcomes → Outcomes → (Value → Value → Outcome) → Outcomes
OfTwo first second step o = Raises (errors_of first) o ⊎ (Raises (errors_of second) o ⊎ ((x y : Value) × first (Ok x) × second (Ok y) × (o ≡ step x y)))

-- an error of some part, or a value of each
abbrev pub AllOf : Outcomes → (List Value → Type 0) → Result (List Value) EvalError → Type 0
AllOf some each (Ok xs) = each xs
AllOf some each (Err e) = some (Err e)

-- an error of some part, or what the step makes of a value of each
abbrev pub OfMany : Outcomes → (List Value → Type 0) → (List Value → Outcome) → Outcomes
OfMany some each step o = Raises (errors_of some) o ⊎ ((xs : List Value) × each xs × (o ≡ step xs))

-- the value that decides, whatever the other part is
abbrev pub Decided : Value → Outcomes → Outcomes → Outcomes
Decided by first second o = (o ≡ Ok by) × (first (Ok by) ⊎ second (Ok by))
