-- Ranges made of two bounds (manual 8.17.6, 8.17.7): "The three-argument form constructs a range with
-- bounds of the form specified by the third argument."
use Rattle.std.specs.Prelude.{ℕ, ℤ, pos, ◌+ℤ◌, int_le, int_lt, Bool, true, false, ◌&&◌, not, cond, List, codes, Option, Some, None, Result, Ok, Err}
use Rattle.std.specs.Option.{ok_or}
use Rattle.std.specs.Str.{bytes_eq}
use Rattle.xp_base.specs.FromLeft.{and_then}
use Rattle.xp_base.specs.declared.codes.EvalError.{EvalError}
use Rattle.xp_base.specs.declared.codes.EvalError.TheVariants as error
use Rattle.xp_value.specs.Representation.{is_bound}
use Rattle.xp_value.specs.declared.value.Range.{Range}
use Rattle.xp_value.specs.declared.value.RangeKind.{RangeKind}
use Rattle.xp_value.specs.declared.value.RangeKind.TheVariants as subtype
use Rattle.xp_range.specs.Bounds.{between}
use Rattle.xp_range.specs.declared.constructors.Flags.{Flags}

-- the error of a bound past the end of its type
abbrev pub past : RangeKind → EvalError
past subtype.Int4 = error.OutOfRange
past subtype.Int8 = error.OutOfRange
past subtype.Day = error.DateOutOfRange

-- the bound one higher, where the type has it
abbrev pub next : RangeKind → ℤ → Result (Option ℤ) EvalError
next kind bound = cond (is_bound kind (bound +ℤ pos 1)) (Ok (Some (bound +ℤ pos 1))) (Err (past kind))

-- a finite bound goes up by one where it has to
abbrev pub stepped : RangeKind → Bool → Option ℤ → Result (Option ℤ) EvalError
stepped kind steps None = Ok None
stepped kind steps (Some bound) = cond steps (next kind bound) (Ok (Some bound))

-- "canonical form that includes the lower bound and excludes the upper bound; that is, [)"
abbrev pub canonical : RangeKind → Flags → Option ℤ → Option ℤ → Result Range EvalError
canonical kind flags lower upper =
    and_then (stepped kind (not flags.lower_inc) lower) (λ first.
    and_then (stepped kind flags.upper_inc upper) (λ end. Ok (between kind first end)))

-- both bounds are finite, and the lower one is above the upper one
abbrev pub is_crossed : Option ℤ → Option ℤ → Bool
is_crossed None upper = false
is_crossed (Some lower) None = false
is_crossed (Some lower) (Some upper) = int_lt upper lower

-- the range of these bounds
abbrev pub made : RangeKind → Flags → Option ℤ → Option ℤ → Result Range EvalError
made kind flags lower upper = cond (is_crossed lower upper) (Err error.RangeData) (canonical kind flags lower upper)

abbrev pub flags_of : Bool → Bool → Flags
flags_of lower_inc upper_inc = record { lower_inc = lower_inc; upper_inc = upper_inc }

-- "The third argument must be one of the strings (), (], [), or []."
abbrev pub flags_named : List ℕ → Option Flags
flags_named text =
    cond (bytes_eq text (codes "[]")) (Some (flags_of true true)) (
    cond (bytes_eq text (codes "[)")) (Some (flags_of true false)) (
    cond (bytes_eq text (codes "(]")) (Some (flags_of false true)) (
    cond (bytes_eq text (codes "()")) (Some (flags_of false false)) None)))

-- the flags that a text spells; null spells none
abbrev pub flags_in : Option (List ℕ) → Result Flags EvalError
flags_in None = Err error.BadParameter
flags_in (Some text) = ok_or (flags_named text) error.BadParameter

-- "The two-argument form constructs a range in standard form (lower bound inclusive, upper bound exclusive)"
abbrev pub standard : Flags
standard = flags_of true false

-- the range of these bounds with a text of flags
abbrev pub made_with : RangeKind → Option ℤ → Option ℤ → Option (List ℕ) → Result Range EvalError
made_with kind lower upper text = and_then (flags_in text) (λ flags. made kind flags lower upper)

-- the point lies within the bounds as they were given
abbrev pub is_past : Bool → Option ℤ → ℤ → Bool
is_past inc None p = true
is_past inc (Some lower) p = cond inc (int_le lower p) (int_lt lower p)

abbrev pub is_short_of : Bool → Option ℤ → ℤ → Bool
is_short_of inc None p = true
is_short_of inc (Some upper) p = cond inc (int_le p upper) (int_lt p upper)

abbrev pub lies_within : Flags → Option ℤ → Option ℤ → ℤ → Bool
lies_within flags lower upper p = is_past flags.lower_inc lower p && is_short_of flags.upper_inc upper p
