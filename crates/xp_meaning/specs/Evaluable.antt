-- Which trees can be evaluated: each node is of a form that is built, its type's values are represented, and each call has a body (this project's own). All are built but arrays, subscripts, and conversions of elements.
use Rattle.std.specs.Prelude.{Bool, true, false, ◌&&◌, Option, Some, None}
use Rattle.xp_base.specs.declared.numbers.BodyNo.{BodyNo}
use Rattle.xp_tree.specs.Rests.{is_represented, is_same_rep}
use Rattle.xp_tree.specs.Typed.{is_text}
use Rattle.xp_value.specs.declared.value.Rep.{Rep}
use Rattle.xp_value.specs.declared.value.Rep.TheVariants as rep
use Rattle.xp_tree.specs.declared.parts.Modifier.{Modifier}
use Rattle.xp_tree.specs.declared.parts.Modifier.TheVariants as modifier
use Rattle.xp_tree.specs.declared.parts.NodeType.{NodeType}
use Rattle.xp_tree.specs.Term.{One, Two, Many, Term, Terms, Arms, elements, sizing, null_if, distinct, subscript, call, array, leaf, one, two, many, case, domain, checked, none, more, no_arm, arm}

-- texts are brought to a length, and numerics to a precision and a scale
abbrev pub is_sizing_built : Modifier → Rep → Bool
is_sizing_built (modifier.Length n) r = is_text r
is_sizing_built (modifier.Digits p s) r = is_same_rep r rep.Num
is_sizing_built m r = false

abbrev pub is_one_built : One → NodeType → Bool
is_one_built (elements way) ty = false
is_one_built (sizing m cut) ty = is_sizing_built m ty.rep
is_one_built _ ty = true

module _ (built : BodyNo → Bool) where
  abbrev pub has_body : Option BodyNo → Bool
  has_body None = false
  has_body (Some number) = built number

  -- NULLIF and IS DISTINCT FROM call their operator
  abbrev pub is_two_built : Two → Bool
  is_two_built (null_if callee) = has_body callee.body
  is_two_built (distinct callee) = has_body callee.body
  is_two_built subscript = false
  is_two_built _ = true

  abbrev pub is_many_built : Many → Bool
  is_many_built (call callee) = has_body callee.body
  is_many_built array = false
  is_many_built _ = true

  abbrev mutual
    pub is_evaluable : Term → Bool
    is_evaluable (leaf l ty) = is_represented ty
    is_evaluable (one o a ty) = is_one_built o ty && is_represented ty && is_evaluable a
    is_evaluable (two o a b ty) = is_two_built o && is_represented ty && is_evaluable a && is_evaluable b
    is_evaluable (many o args ty) = is_many_built o && is_represented ty && all_evaluable args
    is_evaluable (case arms other ty) = is_represented ty && arms_evaluable arms && is_evaluable other
    is_evaluable (domain a number not_null ty) = is_represented ty && is_evaluable a
    is_evaluable (checked a number not_null check ty) = is_represented ty && is_evaluable a && is_evaluable check

    pub all_evaluable : Terms → Bool
    all_evaluable none = true
    all_evaluable (more a rest) = is_evaluable a && all_evaluable rest

    pub arms_evaluable : Arms → Bool
    arms_evaluable no_arm = true
    arms_evaluable (arm c r rest) = is_evaluable c && is_evaluable r && arms_evaluable rest
