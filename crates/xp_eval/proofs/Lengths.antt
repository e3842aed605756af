-- Texts brought to a length, and numerics to a precision.
use Rattle.std.proofs.Common.{◌≡◌, ℕ, suc, ◌+◌, ◌-◌, ◌^◌, ◌<◌, ◌≤◌, List, [], ◌∷◌, ◌++◌, Bool, true, false, Result, refl, ap, ◌∙◌, append_assoc, replicate, arith}
use Rattle.std.proofs.Math.Nat.{pow-le-pow_right}
use Rattle.xp_base.specs.FromLeft.{and_then}
use Rattle.xp_value.specs.declared.value.Rep.{Rep}
use Rattle.xp_value.specs.declared.value.Rep.TheVariants as rep
use Rattle.xp_value.specs.declared.value.Value.{Value}
use Rattle.xp_tree.specs.declared.parts.Modifier.TheVariants as modifier
use Rattle.xp_tree.specs.declared.parts.NodeType.{NodeType}
use Rattle.xp_tree.specs.Rests.{is_same_rep}
use Rattle.xp_tree.specs.Typed.{is_text}
use Rattle.xp_call.specs.Calls.{Calls}
use Rattle.xp_call.specs.declared.fault.CallFault.{CallFault}
use Rattle.xp_meaning.specs.Nodes.{limited, sized, unless_null}
use Rattle.xp_eval.specs.Real.{real}
use Rattle.xp_eval.specs.Sizes.{sized_to}

no_array : (r : Rep) → is_text r ≡ true → is_same_rep r rep.Arr ≡ false
no_array rep.Text h = refl
no_array rep.Pad h = refl
no_array rep.Arr h = absurd cc
no_array r h = refl

number_no_array : (r : Rep) → is_same_rep r rep.Num ≡ true → is_same_rep r rep.Arr ≡ false
number_no_array rep.Arr h = absurd cc
number_no_array rep.Num h = refl
number_no_array r h = refl

-- a text has no elements
pub of_text : (n : ℕ) (cut : Bool) (ty : NodeType) (v : Value) (r : Result Value CallFault) → is_text ty.rep ≡ true
    → Calls (unless_null (λ x. and_then (sized_to (modifier.Length n) cut x) limited) v) r → Calls (unless_null (sized real (modifier.Length n) cut ty) v) r
unfolding real
of_text n cut ty v r h said = rw (no_array ty.rep h) said

-- nor has a numeric
pub of_numeric : (p s : ℕ) (cut : Bool) (ty : NodeType) (v : Value) (r : Result Value CallFault) → is_same_rep ty.rep rep.Num ≡ true
    → Calls (unless_null (λ x. and_then (sized_to (modifier.Digits p s) cut x) limited) v) r → Calls (unless_null (sized real (modifier.Digits p s) cut ty) v) r
unfolding real
of_numeric p s cut ty v r h said = rw (number_no_array ty.rep h) said

-- a precision that each numeric has
pub every_precision : (p : ℕ) → 38 ≤ p → 10 ^ 38 ≤ 10 ^ p
every_precision p h = pow-le-pow_right (omega arith) h

-- one space more, and one less that is left
pub one_more : (made all : List ℕ) (n i : ℕ) → i < n → made ++ replicate (n - i) 32 ≡ all → (made ++ 32 ∷ []) ++ replicate (n - (i + 1)) 32 ≡ all
one_more made all n i h e =
    let left : suc (n - (i + 1)) ≡ n - i = omega arith in
    append_assoc made (32 ∷ []) (replicate (n - (i + 1)) 32) ∙ ap (λ k. made ++ replicate k 32) left ∙ e
