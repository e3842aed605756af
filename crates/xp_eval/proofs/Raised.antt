-- The first error of early parts that stand one behind another.
use Rattle.std.proofs.Common.{◌≡◌, ℕ, ◌+◌, ◌<◌, ◌≤◌, List, [], ◌∷◌, ◌++◌, Bool, true, false, not, length, get_or, drop, map, refl, sym, ap, ◌∙◌, append_assoc, Option, Some, None, Result, Ok, Err}
use Rattle.std.specs.Prelude.{IfOk, if◌then◌else◌}
use Rattle.xp_base.proofs.Lists.{drop_one, drop_none}
use Rattle.xp_base.specs.declared.codes.EvalError.{EvalError}
use Rattle.xp_base.specs.declared.numbers.RowNo.{RowNo}
use Rattle.xp_value.specs.Null.{is_null}
use Rattle.xp_value.specs.declared.value.Value.{Value}
use Rattle.xp_tree.specs.declared.node.CaseArm.{CaseArm}
use Rattle.xp_tree.specs.declared.parts.NodeType.{NodeType}
use Rattle.xp_tree.specs.Term.{Term, terms, conjunction, disjunction, null_if, distinct, subscript, call, coalesce, greatest, least, array, leaf, one, two, many, case, domain, checked, is_const}
use Rattle.xp_tree.specs.View.{arms_of, checked_by}
use Rattle.xp_meaning.specs.Early.{at_once, early, early_all, early_arms, early_first, first_error, settles, whole_or}
use Rattle.xp_meaning.specs.Truth.{Outcome, is_false, is_true}
use Rattle.xp_meaning.proofs.Laws.{mapped}
use Rattle.xp_eval.specs.Real.{early_error, first_raised, real}

-- the first error of outcomes behind others
abbrev pub or_later : Option EvalError → Option EvalError → Option EvalError
or_later None later = later
or_later (Some e) later = Some e

first_step : (o : Outcome) (xs ys : List Outcome) → first_error (xs ++ ys) ≡ or_later (first_error xs) (first_error ys) → first_error (o ∷ xs ++ ys) ≡ or_later (first_error (o ∷ xs)) (first_error ys)
first_step (Ok v) xs ys h = h
first_step (Err e) xs ys h = refl

first_behind : (xs ys : List Outcome) → first_error (xs ++ ys) ≡ or_later (first_error xs) (first_error ys)
first_behind [] ys = refl
first_behind (x ∷ xs) ys = first_step x xs ys (first_behind xs ys)

raised_behind : (ts us : List Term) → first_raised (ts ++ us) ≡ or_later (first_raised ts) (first_raised us)
raised_behind ts us = ap first_error (mapped (at_once real) ts us) ∙ first_behind (map (at_once real) ts) (map (at_once real) us)

pub raised_none : (ts : List Term) (i : ℕ) → length ts ≤ i → first_raised (early_all real (terms (drop i ts))) ≡ None
raised_none ts i h = ap (λ rest. first_raised (early_all real (terms rest))) (drop_none ts i h)

raised_more : (ts : List Term) (i : ℕ) (t : Term) → i < length ts → t ≡ get_or ts i t → first_raised (early_all real (terms (drop i ts))) ≡ or_later (early_error t) (first_raised (early_all real (terms (drop (i + 1) ts))))
raised_more ts i t h e = ap (λ rest. first_raised (early_all real (terms rest))) (drop_one ts i t h e) ∙ raised_behind (early real t) (early_all real (terms (drop (i + 1) ts)))

pub raised_some : (ts : List Term) (i : ℕ) (t : Term) (e : EvalError) → i < length ts → t ≡ get_or ts i t → Some e ≡ early_error t → first_raised (early_all real (terms (drop i ts))) ≡ Some e
raised_some ts i t e h at is = raised_more ts i t h at ∙ ap (λ o. or_later o (first_raised (early_all real (terms (drop (i + 1) ts))))) (sym is)

pub raised_pass : (ts : List Term) (i : ℕ) (t : Term) → i < length ts → t ≡ get_or ts i t → None ≡ early_error t → first_raised (early_all real (terms (drop i ts))) ≡ first_raised (early_all real (terms (drop (i + 1) ts)))
raised_pass ts i t h at is = raised_more ts i t h at ∙ ap (λ o. or_later o (first_raised (early_all real (terms (drop (i + 1) ts))))) (sym is)

whole : (t : Term) (parts : List Term) → is_const t ≡ true → whole_or real t parts ≡ t ∷ []
whole t parts h = rw h refl

-- a constant tree is its only early part
early_whole : (t : Term) → is_const t ≡ true → early real t ≡ t ∷ []
early_whole (leaf l ty) h = whole (leaf l ty) [] h
early_whole (one o a ty) h = whole (one o a ty) (early real a) h
early_whole (two conjunction a b ty) h = whole (two conjunction a b ty) (early real a ++ (if settles real is_false a then [] else early real b)) h
early_whole (two disjunction a b ty) h = whole (two disjunction a b ty) (early real a ++ (if settles real is_true a then [] else early real b)) h
early_whole (two (null_if callee) a b ty) h = whole (two (null_if callee) a b ty) (early real a ++ early real b) h
early_whole (two (distinct callee) a b ty) h = whole (two (distinct callee) a b ty) (early real a ++ early real b) h
early_whole (two subscript a b ty) h = whole (two subscript a b ty) (early real a ++ early real b) h
early_whole (many (call callee) args ty) h = whole (many (call callee) args ty) (early_all real args) h
early_whole (many coalesce args ty) h = whole (many coalesce args ty) (early_first real args) h
early_whole (many greatest args ty) h = whole (many greatest args ty) (early_all real args) h
early_whole (many least args ty) h = whole (many least args ty) (early_all real args) h
early_whole (many array args ty) h = whole (many array args ty) (early_all real args) h
early_whole (case arms other ty) h = whole (case arms other ty) (early_arms real arms (early real other)) h
early_whole (domain a number not_null ty) h = whole (domain a number not_null ty) (early real a) h
early_whole (checked a number not_null check ty) h = whole (checked a number not_null check ty) (early real a ++ early real check) h

pub const_error : (t : Term) (e : Option EvalError) → is_const t ≡ true → e ≡ first_raised (t ∷ []) → e ≡ early_error t
const_error t e h is = is ∙ sym (ap first_raised (early_whole t h))

-- ---- two trees

pub raised_first : (ts us : List Term) (e : EvalError) → Some e ≡ first_raised ts → Some e ≡ first_raised (ts ++ us)
raised_first ts us e is = ap (λ o. or_later o (first_raised us)) is ∙ sym (raised_behind ts us)

behind_none : (ts us : List Term) → None ≡ first_raised ts → first_raised us ≡ first_raised (ts ++ us)
behind_none ts us is = ap (λ o. or_later o (first_raised us)) is ∙ sym (raised_behind ts us)

pub raised_later : {M : Type 0} (ts us : List Term) (r : Result (Option EvalError) M) → None ≡ first_raised ts → IfOk r (λ e. e ≡ first_raised us) → IfOk r (λ e. e ≡ first_raised (ts ++ us))
raised_later ts us (Ok o) none is = is ∙ behind_none ts us none
raised_later ts us (Err m) none is = tt

module _ (test : Value → Bool) (a b : Term) where
  pub settled_none : None ≡ early_error a → settles real test a ≡ true → None ≡ first_raised (early real a ++ (if settles real test a then [] else early real b))
  settled_none none h = rw h (behind_none (early real a) [] none)

  pub unsettled_later : {M : Type 0} (r : Result (Option EvalError) M) → None ≡ early_error a → settles real test a ≡ false → IfOk r (λ e. e ≡ early_error b)
      → IfOk r (λ e. e ≡ first_raised (early real a ++ (if settles real test a then [] else early real b)))
  unsettled_later r none h is = rw h (raised_later (early real a) (early real b) r none is)

-- a domain with a check
pub check_said : {M : Type 0} (a : Term) (row : RowNo) (not_null : Bool) (check : Option Term) (ty : NodeType) (k : Term) (r : Result (Option EvalError) M) → check ≡ Some k
    → is_const (checked_by a row not_null check ty) ≡ false → IfOk r (λ e. e ≡ first_raised (early real a ++ early real k)) → IfOk r (λ e. e ≡ early_error (checked_by a row not_null check ty))
check_said a row not_null check ty k r e h is = let varies = rw e at h in rw (e, varies) is

-- ---- COALESCE

module _ (ts : List Term) (i : ℕ) where
  abbrev left_of_choice : ℕ → Option EvalError
  left_of_choice n = first_raised (early_first real (terms (drop n ts)))

  abbrev behind_argument : Term → List Term
  behind_argument t = if settles real (λ v. not (is_null v)) t then [] else early_first real (terms (drop (i + 1) ts))

  pub no_argument : length ts ≤ i → first_raised (early_first real (terms (drop i ts))) ≡ None
  no_argument h = ap (λ rest. first_raised (early_first real (terms rest))) (drop_none ts i h)

  argument : (t : Term) → i < length ts → t ≡ get_or ts i t → left_of_choice i ≡ first_raised (early real t ++ behind_argument t)
  argument t h at = ap (λ rest. first_raised (early_first real (terms rest))) (drop_one ts i t h at)

  pub argument_raised : (t : Term) (e : EvalError) → i < length ts → t ≡ get_or ts i t → Some e ≡ early_error t → first_raised (early_first real (terms (drop i ts))) ≡ Some e
  argument_raised t e h at is = argument t h at ∙ sym (raised_first (early real t) (behind_argument t) e is)

  pub argument_settled : (t : Term) → i < length ts → t ≡ get_or ts i t → None ≡ early_error t → settles real (λ v. not (is_null v)) t ≡ true → first_raised (early_first real (terms (drop i ts))) ≡ None
  argument_settled t h at none is = argument t h at ∙ sym (behind_none (early real t) (behind_argument t) none) ∙ rw is refl

  pub argument_passed : (t : Term) → i < length ts → t ≡ get_or ts i t → None ≡ early_error t → settles real (λ v. not (is_null v)) t ≡ false
      → first_raised (early_first real (terms (drop i ts))) ≡ first_raised (early_first real (terms (drop (i + 1) ts)))
  argument_passed t h at none is = argument t h at ∙ sym (behind_none (early real t) (behind_argument t) none) ∙ rw is refl

-- ---- CASE

module _ (other : Term) (arms : List CaseArm) (i : ℕ) where
  abbrev left_of_arms : ℕ → Option EvalError
  left_of_arms n = first_raised (early_arms real (arms_of (drop n arms)) (early real other))

  abbrev of_arm : CaseArm → List Term
  of_arm a = early real a.condition ++ (if settles real (λ v. not (is_true v)) a.condition then [] else early real a.result)

  abbrev behind_arm : CaseArm → List Term
  behind_arm a = if settles real is_true a.condition then [] else early_arms real (arms_of (drop (i + 1) arms)) (early real other)

  pub no_arms : {M : Type 0} (r : Result (Option EvalError) M) → length arms ≤ i → IfOk r (λ e. e ≡ early_error other) → IfOk r (λ e. e ≡ first_raised (early_arms real (arms_of (drop i arms)) (early real other)))
  no_arms r h is = rw (drop_none arms i h) is

  an_arm : (a : CaseArm) → i < length arms → a ≡ get_or arms i a → left_of_arms i ≡ first_raised (of_arm a ++ behind_arm a)
  an_arm a h at =
      ap (λ rest. first_raised (early_arms real (arms_of rest) (early real other))) (drop_one arms i a h at)
      ∙ ap first_raised (sym (append_assoc (early real a.condition) (if settles real (λ v. not (is_true v)) a.condition then [] else early real a.result) (behind_arm a)))

  pub arm_raised : (a : CaseArm) (e : EvalError) → i < length arms → a ≡ get_or arms i a → Some e ≡ first_raised (early real a.condition ++ (if settles real (λ v. not (is_true v)) a.condition then [] else early real a.result))
      → first_raised (early_arms real (arms_of (drop i arms)) (early real other)) ≡ Some e
  arm_raised a e h at is = an_arm a h at ∙ sym (raised_first (of_arm a) (behind_arm a) e is)

  pub arm_settled : (a : CaseArm) → i < length arms → a ≡ get_or arms i a → None ≡ first_raised (early real a.condition ++ (if settles real (λ v. not (is_true v)) a.condition then [] else early real a.result))
      → settles real is_true a.condition ≡ true → first_raised (early_arms real (arms_of (drop i arms)) (early real other)) ≡ None
  arm_settled a h at none is = an_arm a h at ∙ sym (behind_none (of_arm a) (behind_arm a) none) ∙ rw is refl

  pub arm_passed : (a : CaseArm) → i < length arms → a ≡ get_or arms i a → None ≡ first_raised (early real a.condition ++ (if settles real (λ v. not (is_true v)) a.condition then [] else early real a.result))
      → settles real is_true a.condition ≡ false → first_raised (early_arms real (arms_of (drop i arms)) (early real other)) ≡ first_raised (early_arms real (arms_of (drop (i + 1) arms)) (early real other))
  arm_passed a h at none is = an_arm a h at ∙ sym (behind_none (of_arm a) (behind_arm a) none) ∙ rw is refl
