-- Three-valued logic: a truth value is true, false or null (manual 9.1, 9.2).
use Rattle.std.specs.Prelude.{Bool, false, not, ◌||◌, List, [], ◌∷◌, Result, if◌then◌else◌}
use Rattle.xp_base.specs.declared.codes.EvalError.{EvalError}
use Rattle.xp_value.specs.Null.{is_null}
use Rattle.xp_value.specs.declared.value.Value.{Value}
use Rattle.xp_value.specs.declared.value.Value.TheVariants as value

-- what evaluation gives: a value, or the error that it raises
abbrev pub Outcome : Type 0
Outcome = Result Value EvalError

abbrev pub is_true : Value → Bool
is_true (value.Bool b) = b
is_true _ = false

abbrev pub is_false : Value → Bool
is_false (value.Bool b) = not b
is_false _ = false

abbrev pub has_null : List Value → Bool
has_null [] = false
has_null (v ∷ vs) = is_null v || has_null vs

-- false where one is, the other where one is true, and else null
abbrev pub and_of : Value → Value → Value
and_of x y = if is_false x then x else (if is_false y then y else (if is_true x then y else (if is_true y then x else value.Null)))

-- true where one is, the other where one is false, and else null
abbrev pub or_of : Value → Value → Value
or_of x y = if is_true x then x else (if is_true y then y else (if is_false x then y else (if is_false y then x else value.Null)))

abbrev pub not_of : Value → Value
not_of (value.Bool b) = value.Bool (not b)
not_of _ = value.Null
