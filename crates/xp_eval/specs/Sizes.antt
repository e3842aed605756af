-- Texts brought to a length in characters, and numerics to a precision and a scale (manual 8.1.2, 8.3).
use Rattle.std.specs.Prelude.{ℕ, ◌-◌, ◌^◌, ◌==◌, pos, List, ◌++◌, Bool, ◌||◌, length, take, drop, replicate, nat_le, nat_lt, if◌then◌else◌, Result, Ok, Err}
use Rattle.std.specs.List.{list_all}
use Rattle.std.specs.Str.{chars, encode_utf8_all}
use Rattle.xp_base.specs.FromLeft.{and_then}
use Rattle.xp_base.specs.declared.codes.EvalError.{EvalError}
use Rattle.xp_base.specs.declared.codes.EvalError.TheVariants.{Limit, OutOfRange, TooLong}
use Rattle.xp_base.specs.declared.decimal.Dec.{Dec}
use Rattle.xp_numeric.specs.Places.{rounded}
use Rattle.xp_value.specs.declared.value.Value.{Value}
use Rattle.xp_value.specs.declared.value.Value.TheVariants as value
use Rattle.xp_tree.specs.declared.parts.Modifier.{Modifier}
use Rattle.xp_tree.specs.declared.parts.Modifier.TheVariants as modifier
use Rattle.xp_meaning.specs.Truth.{Outcome}

-- the first characters of a text
abbrev pub front : ℕ → List ℕ → List ℕ
front n text = encode_utf8_all (take n (chars text))

-- spaces alone stand behind them
abbrev pub ends_blank : ℕ → List ℕ → Bool
ends_blank n text = list_all (λ c. c == 32) (drop n (chars text))

-- a longer text is cut where `cut` says so or spaces alone would go, and else it is too long
abbrev pub shortened : ℕ → Bool → List ℕ → Result (List ℕ) EvalError
shortened n cut text = if nat_le (length (chars text)) n then Ok text else (if cut || ends_blank n text then Ok (front n text) else Err TooLong)

-- a shorter one gets spaces at its end
abbrev pub padded : ℕ → List ℕ → List ℕ
padded n text = text ++ replicate (n - length (chars text)) 32

-- at most so many digits in all; a number past the limit on numerics has more than any precision
abbrev pub of_precision : ℕ → Result Dec EvalError → Outcome
of_precision precision (Ok y) = if nat_lt y.coef (10 ^ precision) then Ok (value.Num y) else Err OutOfRange
of_precision precision (Err e) = Err OutOfRange

-- the digits are counted behind the rounding
abbrev pub rounded_to : ℕ → ℕ → Dec → Outcome
rounded_to precision scale x = of_precision precision (rounded (pos scale) x)

-- only texts have a length, and only numerics a precision; other values, and other modifiers, of which no tree is evaluated, count as past a limit
abbrev pub sized_to : Modifier → Bool → Value → Outcome
sized_to (modifier.Length n) cut (value.Text text) = and_then (shortened n cut text) (λ s. Ok (value.Text s))
sized_to (modifier.Length n) cut (value.Pad text) = and_then (shortened n cut text) (λ s. Ok (value.Pad (padded n s)))
sized_to (modifier.Digits p s) cut (value.Num x) = rounded_to p s x
sized_to m cut v = Err Limit
