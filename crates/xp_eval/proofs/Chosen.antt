-- What a choice has left: the next part, and those behind it.
use Rattle.std.proofs.Common.{◌≡◌, ℕ, ◌+◌, ◌<◌, ◌≤◌, List, ◌∷◌, Bool, true, false, length, get_or, drop, refl, ap, ◌∙◌, Result, Ok, Err}
use Rattle.std.specs.Prelude.{fold, if◌then◌else◌}
use Rattle.std.specs.declared.cmp.Ordering.{Ordering}
use Rattle.xp_base.proofs.Lists.{drop_one, drop_none}
use Rattle.xp_base.specs.FromLeft.{and_then}
use Rattle.xp_base.specs.declared.codes.EvalError.{EvalError}
use Rattle.xp_value.specs.Null.{is_null}
use Rattle.xp_value.specs.declared.value.Value.{Value}
use Rattle.xp_value.specs.declared.value.Value.TheVariants as value
use Rattle.xp_tree.specs.declared.node.CaseArm.{CaseArm}
use Rattle.xp_tree.specs.Term.{Term, terms}
use Rattle.xp_tree.specs.View.{arms_of}
use Rattle.xp_call.specs.Calls.{Calls}
use Rattle.xp_call.specs.declared.fault.CallFault.{CallFault}
use Rattle.xp_meaning.specs.Meaning.{arm_outcome, first_outcome, outcome, outcomes}
use Rattle.xp_meaning.specs.Nodes.{kept_of}
use Rattle.xp_meaning.specs.Truth.{Outcome, is_true}
use Rattle.xp_eval.specs.Real.{real}
use Rattle.xp_eval.proofs.Called.{answered_ok, calls_stop}

-- ---- CASE

module _ (row : List Value) (v : Value) (other : Outcome) (arms : List CaseArm) (i : ℕ) where
  pub no_arms : length arms ≤ i → arm_outcome real row v (arms_of (drop i arms)) other ≡ other
  no_arms h = ap (λ rest. arm_outcome real row v (arms_of rest) other) (drop_none arms i h)

  abbrev taken : CaseArm → Value → Outcome
  taken a x = if is_true x then outcome real row v a.result else arm_outcome real row v (arms_of (drop (i + 1) arms)) other

  an_arm : (a : CaseArm) → i < length arms → a ≡ get_or arms i a → arm_outcome real row v (arms_of (drop i arms)) other ≡ and_then (outcome real row v a.condition) (taken a)
  an_arm a h at = ap (λ rest. arm_outcome real row v (arms_of rest) other) (drop_one arms i a h at)

  pub arm_stop : (a : CaseArm) (e : CallFault) → i < length arms → a ≡ get_or arms i a → Calls (outcome real row v a.condition) (Err e) → Calls (arm_outcome real row v (arms_of (drop i arms)) other) (Err e)
  arm_stop a e h at said = rw (an_arm a h at) (calls_stop (outcome real row v a.condition) (taken a) e said)

  an_arm_of : (a : CaseArm) (x : Value) → i < length arms → a ≡ get_or arms i a → Calls (outcome real row v a.condition) (Ok x) → arm_outcome real row v (arms_of (drop i arms)) other ≡ taken a x
  an_arm_of a x h at said = an_arm a h at ∙ ap (λ o. and_then o (taken a)) (answered_ok (outcome real row v a.condition) x said)

  pub arm_taken : (a : CaseArm) (x : Value) (r : Result Value CallFault) → i < length arms → a ≡ get_or arms i a → Calls (outcome real row v a.condition) (Ok x) → is_true x ≡ true
      → Calls (outcome real row v a.result) r → Calls (arm_outcome real row v (arms_of (drop i arms)) other) r
  arm_taken a x r h at said is k = rw (an_arm_of a x h at said, is) k

  pub arm_passed : (a : CaseArm) (x : Value) → i < length arms → a ≡ get_or arms i a → Calls (outcome real row v a.condition) (Ok x) → is_true x ≡ false
      → arm_outcome real row v (arms_of (drop i arms)) other ≡ arm_outcome real row v (arms_of (drop (i + 1) arms)) other
  arm_passed a x h at said is = an_arm_of a x h at said ∙ rw is refl

-- ---- COALESCE

module _ (row : List Value) (v : Value) (ts : List Term) (i : ℕ) where
  pub no_argument : length ts ≤ i → first_outcome real row v (terms (drop i ts)) ≡ Ok value.Null
  no_argument h = ap (λ rest. first_outcome real row v (terms rest)) (drop_none ts i h)

  abbrev chosen : Value → Outcome
  chosen x = if is_null x then first_outcome real row v (terms (drop (i + 1) ts)) else Ok x

  argument : (t : Term) → i < length ts → t ≡ get_or ts i t → first_outcome real row v (terms (drop i ts)) ≡ and_then (outcome real row v t) chosen
  argument t h at = ap (λ rest. first_outcome real row v (terms rest)) (drop_one ts i t h at)

  pub argument_stop : (t : Term) (e : CallFault) → i < length ts → t ≡ get_or ts i t → Calls (outcome real row v t) (Err e) → Calls (first_outcome real row v (terms (drop i ts))) (Err e)
  argument_stop t e h at said = rw (argument t h at) (calls_stop (outcome real row v t) chosen e said)

  argument_of : (t : Term) (x : Value) → i < length ts → t ≡ get_or ts i t → Calls (outcome real row v t) (Ok x) → first_outcome real row v (terms (drop i ts)) ≡ chosen x
  argument_of t x h at said = argument t h at ∙ ap (λ o. and_then o chosen) (answered_ok (outcome real row v t) x said)

  pub argument_taken : (t : Term) (x : Value) → i < length ts → t ≡ get_or ts i t → Calls (outcome real row v t) (Ok x) → is_null x ≡ false → first_outcome real row v (terms (drop i ts)) ≡ Ok x
  argument_taken t x h at said is = argument_of t x h at said ∙ rw is refl

  pub argument_passed : (t : Term) (x : Value) → i < length ts → t ≡ get_or ts i t → Calls (outcome real row v t) (Ok x) → is_null x ≡ true
      → first_outcome real row v (terms (drop i ts)) ≡ first_outcome real row v (terms (drop (i + 1) ts))
  argument_passed t x h at said is = argument_of t x h at said ∙ rw is refl

-- ---- GREATEST and LEAST

-- the values that are left, of which the best so far is kept
abbrev pub best_of : (Ordering → Bool) → Value → Result (List Value) EvalError → Outcome
best_of win best values = and_then values (λ vs. Ok (fold (kept_of win) best vs))

best_behind : (win : Ordering → Bool) (best x : Value) (values : Result (List Value) EvalError) → best_of win best (and_then values (λ vs. Ok (x ∷ vs))) ≡ best_of win (kept_of win best x) values
best_behind win best x (Ok vs) = refl
best_behind win best x (Err e) = refl

module _ (win : Ordering → Bool) (best : Value) (row : List Value) (v : Value) (ts : List Term) (i : ℕ) where
  pub none_left : length ts ≤ i → best_of win best (outcomes real row v (terms (drop i ts))) ≡ Ok best
  none_left h = ap (λ rest. best_of win best (outcomes real row v (terms rest))) (drop_none ts i h)

  next_of : (t : Term) → i < length ts → t ≡ get_or ts i t
      → best_of win best (outcomes real row v (terms (drop i ts))) ≡ best_of win best (and_then (outcome real row v t) (λ x. and_then (outcomes real row v (terms (drop (i + 1) ts))) (λ vs. Ok (x ∷ vs))))
  next_of t h at = ap (λ rest. best_of win best (outcomes real row v (terms rest))) (drop_one ts i t h at)

  pub next_stop : (t : Term) (e : CallFault) → i < length ts → t ≡ get_or ts i t → Calls (outcome real row v t) (Err e) → Calls (best_of win best (outcomes real row v (terms (drop i ts)))) (Err e)
  next_stop t e h at said =
      rw (next_of t h at) (calls_stop (and_then (outcome real row v t) (λ x. and_then (outcomes real row v (terms (drop (i + 1) ts))) (λ vs. Ok (x ∷ vs)))) (λ vs. Ok (fold (kept_of win) best vs)) e
      (calls_stop (outcome real row v t) (λ x. and_then (outcomes real row v (terms (drop (i + 1) ts))) (λ vs. Ok (x ∷ vs))) e said))

  pub next_kept : (t : Term) (x : Value) → i < length ts → t ≡ get_or ts i t → Calls (outcome real row v t) (Ok x)
      → best_of win best (outcomes real row v (terms (drop i ts))) ≡ best_of win (kept_of win best x) (outcomes real row v (terms (drop (i + 1) ts)))
  next_kept t x h at said =
      next_of t h at ∙ ap (λ o. best_of win best (and_then o (λ x. and_then (outcomes real row v (terms (drop (i + 1) ts))) (λ vs. Ok (x ∷ vs))))) (answered_ok (outcome real row v t) x said)
      ∙ best_behind win best x (outcomes real row v (terms (drop (i + 1) ts)))
