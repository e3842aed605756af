-- Which parts of a tree that can be evaluated can be evaluated.
use Rattle.std.proofs.Common.{◌≡◌, ℕ, zero, suc, ◌<◌, List, [], ◌∷◌, Bool, true, ◌&&◌, length, get_or, ap, ◌∙◌, arith, Option, Some, None}
use Rattle.std.proofs.lemmas.Bool.{and_parts}
use Rattle.xp_base.specs.declared.numbers.BodyNo.{BodyNo}
use Rattle.xp_base.specs.declared.numbers.RowNo.{RowNo}
use Rattle.xp_tree.specs.declared.node.CaseArm.{CaseArm}
use Rattle.xp_tree.specs.declared.parts.Modifier.{Modifier}
use Rattle.xp_tree.specs.declared.parts.NodeType.{NodeType}
use Rattle.xp_tree.specs.Rests.{is_represented}
use Rattle.xp_tree.specs.Term.{Arms, Term, Two, case, one, sizing, terms, two}
use Rattle.xp_tree.specs.View.{arms_of, checked_by}
use Rattle.xp_meaning.specs.Evaluable.{all_evaluable, arms_evaluable, is_evaluable, is_sizing_built, is_two_built}

pub evaluable_at : (built : BodyNo → Bool) (ts : List Term) (i : ℕ) (d : Term) → i < length ts → all_evaluable built (terms ts) ≡ true → is_evaluable built (get_or ts i d) ≡ true
evaluable_at built [] i d h e = absurd (omega arith)
evaluable_at built (t ∷ ts) zero d h e = (and_parts (is_evaluable built t) (all_evaluable built (terms ts)) e).0
evaluable_at built (t ∷ ts) (suc i) d h e = evaluable_at built ts i d (omega arith) (and_parts (is_evaluable built t) (all_evaluable built (terms ts)) e).1

module _ (built : BodyNo → Bool) where
  arm_at : (arms : List CaseArm) (i : ℕ) (d : CaseArm) → i < length arms → arms_evaluable built (arms_of arms) ≡ true → (is_evaluable built (get_or arms i d).condition && is_evaluable built (get_or arms i d).result) ≡ true
  arm_at [] i d h e = absurd (omega arith)
  arm_at (a ∷ arms) zero d h e = (and_parts (is_evaluable built a.condition && is_evaluable built a.result) (arms_evaluable built (arms_of arms)) e).0
  arm_at (a ∷ arms) (suc i) d h e = arm_at arms i d (omega arith) (and_parts (is_evaluable built a.condition && is_evaluable built a.result) (arms_evaluable built (arms_of arms)) e).1

  pub condition_evaluable : (arms : List CaseArm) (i : ℕ) (d : CaseArm) → i < length arms → arms_evaluable built (arms_of arms) ≡ true → is_evaluable built (get_or arms i d).condition ≡ true
  condition_evaluable arms i d h e = (and_parts (is_evaluable built (get_or arms i d).condition) (is_evaluable built (get_or arms i d).result) (arm_at arms i d h e)).0

  pub result_evaluable : (arms : List CaseArm) (i : ℕ) (d : CaseArm) → i < length arms → arms_evaluable built (arms_of arms) ≡ true → is_evaluable built (get_or arms i d).result ≡ true
  result_evaluable arms i d h e = (and_parts (is_evaluable built (get_or arms i d).condition) (is_evaluable built (get_or arms i d).result) (arm_at arms i d h e)).1

pub check_evaluable : (built : BodyNo → Bool) (a : Term) (row : RowNo) (not_null : Bool) (check : Option Term) (ty : NodeType) (k : Term) → check ≡ Some k
    → is_evaluable built (checked_by a row not_null check ty) ≡ true → is_evaluable built k ≡ true
check_evaluable built a row not_null None ty k e h = absurd cc
check_evaluable built a row not_null (Some c) ty k e h =
    let same : k ≡ c = cc in
    ap (is_evaluable built) same ∙ (and_parts (is_represented ty && is_evaluable built a) (is_evaluable built c) h).1

-- ---- parts of nodes

pub two_evaluable : (built : BodyNo → Bool) (o : Two) (a b : Term) (ty : NodeType) → is_evaluable built (two o a b ty) ≡ true → (is_evaluable built a ≡ true) × (is_evaluable built b ≡ true)
two_evaluable built o a b ty h =
    let parts = and_parts (is_two_built built o && is_represented ty && is_evaluable built a) (is_evaluable built b) h in
    ((and_parts (is_two_built built o && is_represented ty) (is_evaluable built a) parts.0).1, parts.1)

pub case_evaluable : (built : BodyNo → Bool) (arms : Arms) (other : Term) (ty : NodeType) → is_evaluable built (case arms other ty) ≡ true → (arms_evaluable built arms ≡ true) × (is_evaluable built other ≡ true)
case_evaluable built arms other ty h =
    let parts = and_parts (is_represented ty && arms_evaluable built arms) (is_evaluable built other) h in
    ((and_parts (is_represented ty) (arms_evaluable built arms) parts.0).1, parts.1)

pub sizing_is_built : (built : BodyNo → Bool) (m : Modifier) (cut : Bool) (a : Term) (ty : NodeType) → is_evaluable built (one (sizing m cut) a ty) ≡ true → is_sizing_built m ty.rep ≡ true
sizing_is_built built m cut a ty h = (and_parts (is_sizing_built m ty.rep) (is_represented ty) (and_parts (is_sizing_built m ty.rep && is_represented ty) (is_evaluable built a) h).0).0
