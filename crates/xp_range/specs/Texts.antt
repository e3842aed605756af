-- The texts of ranges, over the texts of their bounds (manual 8.17.5).
use Rattle.std.specs.Prelude.{◌≡◌, ℕ, ◌+◌, ◌-◌, ℤ, Bool, true, false, ◌==◌, ◌&&◌, not, cond, List, [], ◌∷◌, ◌++◌, codes, length, take, drop, slice_index, Option, Some, None, option_map, IfSome, Result, Ok}
use Rattle.std.specs.List.{list_all, list_any, position}
use Rattle.std.specs.Option.{ok_or}
use Rattle.std.specs.Str.{str_eq_ignore_ascii_case}
use Rattle.xp_base.specs.FromLeft.{and_then}
use Rattle.xp_base.specs.declared.codes.EvalError.{EvalError}
use Rattle.xp_base.specs.declared.codes.EvalError.TheVariants.{BadText}
use Rattle.xp_value.specs.declared.value.Range.{Range}
use Rattle.xp_value.specs.declared.value.Range.TheVariants.{Empty, Bounds}
use Rattle.xp_value.specs.declared.value.RangeKind.{RangeKind}
use Rattle.xp_range.specs.Bounds.{lower_of, upper_of}
use Rattle.xp_range.specs.Constructors.{flags_named, made}
use Rattle.xp_range.specs.declared.constructors.Flags.{Flags}

-- ---- In: "(lower-bound,upper-bound)", with either bracket at either end, or "empty"

-- a bound's text has no bracket, parenthesis, comma, double quote or backslash
abbrev pub is_plain : ℕ → Bool
is_plain c = not (list_any (λ b. b == c) (codes "[](),\"\\"))

-- the flags, and the texts of the two bounds
abbrev pub Parts : Type 0
Parts = Flags × List ℕ × List ℕ

-- the first and the last byte, and what stands between them
abbrev pub ends : List ℕ → List ℕ
ends text = slice_index text 0 ∷ slice_index text (length text - 1) ∷ []

abbrev pub inside : List ℕ → List ℕ
inside text = take (length text - 2) (drop 1 text)

-- the bounds' texts, before and behind a comma
abbrev pub plain_bounds : List ℕ → List ℕ → Option (List ℕ × List ℕ)
plain_bounds lower upper = cond (list_all is_plain lower && list_all is_plain upper) (Some (lower, upper)) None

abbrev pub bounds_at : List ℕ → Option ℕ → Option (List ℕ × List ℕ)
bounds_at text None = None
bounds_at text (Some comma) = plain_bounds (take comma text) (drop (comma + 1) text)

abbrev pub bounds_in : List ℕ → Option (List ℕ × List ℕ)
bounds_in text = bounds_at text (position (λ b. b == 44) text)

abbrev pub with_flags : Option Flags → Option (List ℕ × List ℕ) → Option Parts
with_flags None bounds = None
with_flags (Some flags) bounds = option_map (λ b. (flags, b.0, b.1)) bounds

abbrev pub parts_of : List ℕ → Option Parts
parts_of text = with_flags (flags_named (ends text)) (bounds_in (inside text))

-- the parts of a range's text without white space at its ends; the empty range has none
abbrev pub split : List ℕ → Result (Option Parts) EvalError
split text = cond (str_eq_ignore_ascii_case text (codes "empty")) (Ok None) (ok_or (option_map Some (parts_of text)) BadText)

-- "an empty string for no bound"
abbrev pub bound_in : (List ℕ → Result ℤ EvalError) → List ℕ → Result (Option ℤ) EvalError
bound_in read [] = Ok None
bound_in read (c ∷ text) = and_then (read (c ∷ text)) (λ bound. Ok (Some bound))

abbrev pub range_of : (List ℕ → Result ℤ EvalError) → RangeKind → Option Parts → Result Range EvalError
range_of read kind None = Ok (Empty kind)
range_of read kind (Some parts) =
    and_then (bound_in read parts.1) (λ lower.
    and_then (bound_in read parts.2) (λ upper. made kind parts.0 lower upper))

-- the range that a text without white space at its ends is, where `read` is what the text of a bound is
abbrev pub range_in : (List ℕ → Result ℤ EvalError) → RangeKind → List ℕ → Result Range EvalError
range_in read kind text = and_then (split text) (range_of read kind)

-- ---- Out

-- `[`, or `(` where the lower bound is infinite
abbrev pub opening : Option ℤ → ℕ
opening None = 40
opening (Some bound) = 91

-- the text of a range whose bounds have these texts: bracket, bound, comma, bound, parenthesis
abbrev pub text_with : Range → List ℕ → List ℕ → List ℕ
text_with (Empty k) lower upper = codes "empty"
text_with (Bounds first end k) lower upper = opening first ∷ lower ++ 44 ∷ upper ++ 41 ∷ []

abbrev pub bound_text : (ℤ → List ℕ) → Option ℤ → List ℕ
bound_text write None = []
bound_text write (Some bound) = write bound

-- the text of a range, where `write` is the text of a bound
abbrev pub text : (ℤ → List ℕ) → Range → List ℕ
text write range = text_with range (bound_text write (lower_of range)) (bound_text write (upper_of range))

-- the text of a finite bound is read as that bound, it is plain, and it isn't empty
abbrev pub ReadsBack : (List ℕ → Result ℤ EvalError) → (ℤ → List ℕ) → Option ℤ → Type 0
ReadsBack read write bound = IfSome bound (λ n. (read (write n) ≡ Ok n) × (list_all is_plain (write n) ≡ true) × ((length (write n) == 0) ≡ false))
