-- The last step of each node, over the values of its parts (manual 4.2, 9.2, 9.18, 10.4).
use Rattle.std.specs.Prelude.{ℕ, suc, pos, List, [], ◌∷◌, Bool, true, ◌&&◌, not, Option, Some, None, Ok, Err, slice_get, unwrap_or, if◌then◌else◌, fold}
use Rattle.std.specs.declared.cmp.Ordering.{Ordering}
use Rattle.std.specs.Ordering.{is_gt, is_lt}
use Rattle.xp_base.specs.FromLeft.{and_then, each}
use Rattle.xp_base.specs.declared.codes.EvalError.TheVariants.{Check, Limit, NotNull}
use Rattle.xp_base.specs.declared.numbers.BodyNo.{BodyNo}
use Rattle.xp_value.specs.Elements.{elements_of}
use Rattle.xp_value.specs.Order.{value_order}
use Rattle.xp_value.specs.Representation.{is_within_limits, plain}
use Rattle.xp_value.specs.declared.value.Rep.{Rep}
use Rattle.xp_value.specs.declared.value.Rep.TheVariants as rep
use Rattle.xp_value.specs.Null.{is_null}
use Rattle.xp_value.specs.declared.value.Value.{Value}
use Rattle.xp_value.specs.declared.value.Value.TheVariants as value
use Rattle.xp_value.specs.declared.value.Value.TheViews.{Arr}
use Rattle.xp_tree.specs.declared.parts.Callee.{Callee}
use Rattle.xp_tree.specs.declared.parts.Modifier.{Modifier}
use Rattle.xp_tree.specs.declared.parts.NodeType.{NodeType}
use Rattle.xp_tree.specs.declared.parts.Way.{Way}
use Rattle.xp_tree.specs.declared.parts.Way.TheVariants.{ByBody, ByOutput, ByInput, ByRelabel}
use Rattle.xp_tree.specs.Rests.{is_same_rep}
use Rattle.xp_tree.specs.Term.{One, output, input, relabel, elements as by_elements, sizing, negation, is_null as null_test, is_true as true_test, is_false as false_test, is_unknown as unknown_test}
use Rattle.xp_tree.specs.Typed.{shape_of}
use Rattle.xp_meaning.specs.Primitives.{Primitives}
use Rattle.xp_meaning.specs.Truth.{Outcome, has_null, is_false, is_true, not_of}

-- a value past the limits on values is never given
abbrev pub limited : Value → Outcome
limited v = if is_within_limits v then Ok v else Err Limit

-- null stays null
abbrev pub unless_null : (Value → Outcome) → Value → Outcome
unless_null f v = if is_null v then Ok value.Null else f v

abbrev pub truth : Bool → Outcome
truth b = Ok (value.Bool b)

-- ---- calls

-- Each call without a body is refused before it is evaluated; here it counts as one past a limit.
abbrev pub body_of : Primitives → Option BodyNo → List Value → Outcome
body_of p None values = Err Limit
body_of p (Some number) values = p.body number values

-- a strict call gives null where an argument is null
abbrev pub call_of : Primitives → Callee → List Value → Outcome
call_of p callee values = if callee.strict && has_null values then Ok value.Null else body_of p callee.body values

-- null where the two are equal by the operator's body, and else the first
abbrev pub null_if_of : Primitives → Callee → Value → Value → Outcome
null_if_of p callee x y = and_then (call_of p callee (x ∷ y ∷ [])) (λ equal. Ok (if is_true equal then value.Null else x))

-- nulls are alike, null is unlike any other value, and two others are as the operator's body says
abbrev pub distinct_of : Primitives → Callee → Value → Value → Outcome
distinct_of p callee x y =
    if is_null x then truth (not (is_null y)) else (
    if is_null y then truth true else
    and_then (call_of p callee (x ∷ y ∷ [])) (λ equal. truth (not (is_true equal))))

-- ---- conversions

-- the characters, padded in the representation of bpchar
abbrev pub text_in : Rep → List ℕ → Value
text_in rep.Pad text = value.Pad text
text_in _ text = value.Text text

-- a text in another representation of texts; any other value stays
abbrev pub relabelled : Rep → Value → Value
relabelled r (value.Text text) = text_in r text
relabelled r (value.Pad text) = text_in r text
relabelled r v = v

abbrev pub output_of : Primitives → Rep → Value → Outcome
output_of p r v = limited (text_in r (p.write v))

abbrev pub characters : Value → List ℕ
characters (value.Text text) = text
characters (value.Pad text) = text
characters _ = []

-- each element in turn
abbrev pub over_elements : (Value → Outcome) → Value → Outcome
over_elements f v = and_then (each f (unwrap_or (elements_of v) [])) (λ values. limited (Arr values))

abbrev pub converted : Primitives → Way → NodeType → Value → Outcome
converted p (ByBody callee) ty v = call_of p callee (v ∷ [])
converted p ByOutput ty v = output_of p ty.element v
converted p ByInput ty v = p.read (plain ty.element) (characters v)
converted p ByRelabel ty v = Ok (relabelled ty.element v)

abbrev pub elements_converted : Primitives → Way → NodeType → Value → Outcome
elements_converted p way ty = over_elements (unless_null (converted p way ty))

-- of an array type each element is sized
abbrev pub sized : Primitives → Modifier → Bool → NodeType → Value → Outcome
sized p m cut ty v = if is_same_rep ty.rep rep.Arr then over_elements (unless_null (p.size m cut)) v else and_then (p.size m cut v) limited

-- ---- nodes over one tree

abbrev pub one_step : Primitives → One → NodeType → Value → Outcome
one_step p output ty = unless_null (output_of p ty.rep)
one_step p input ty = unless_null (λ x. p.read (shape_of ty) (characters x))
one_step p relabel ty = λ x. Ok (relabelled ty.rep x)
one_step p (by_elements way) ty = unless_null (elements_converted p way ty)
one_step p (sizing m cut) ty = unless_null (sized p m cut ty)
one_step p negation ty = λ x. Ok (not_of x)
one_step p null_test ty = λ x. truth (is_null x)
one_step p true_test ty = λ x. truth (is_true x)
one_step p false_test ty = λ x. truth (is_false x)
one_step p unknown_test ty = λ x. truth (is_null x)

-- ---- domains

abbrev pub kept_not_null : Bool → Value → Outcome
kept_not_null not_null v = if not_null && is_null v then Err NotNull else Ok v

-- a check refuses only where it is false
abbrev pub checked_by : Value → Value → Outcome
checked_by v check = if is_false check then Err Check else Ok v

-- ---- lists of values

-- of what is kept so far and the next value: nulls are left out, and of two alike the first is kept
abbrev pub kept_of : (Ordering → Bool) → Value → Value → Value
kept_of wins kept next = if is_null next then kept else (if is_null kept then next else (if wins (value_order next kept) then next else kept))

abbrev pub greatest_of : List Value → Value
greatest_of values = fold (kept_of is_gt) value.Null values

abbrev pub least_of : List Value → Value
least_of values = fold (kept_of is_lt) value.Null values

abbrev pub array_of : List Value → Outcome
array_of values = limited (Arr values)

-- the element of that number, counted from 1; null where there is none
abbrev pub element_at : List Value → Value → Value
element_at elements (value.Int (pos (suc n))) = unwrap_or (slice_get elements n) value.Null
element_at elements _ = value.Null

abbrev pub subscripted : Value → Value → Value
subscripted v index = element_at (unwrap_or (elements_of v) []) index
