-- A tree that may be a check is a truth value.
use Rattle.std.proofs.Common.{◌≡◌, inl, inr, true, false, ◌&&◌, not, codes, refl, ap, ◌∙◌, Some}
use Rattle.std.proofs.lemmas.Bool.{and_parts}
use Rattle.xp_value.specs.declared.value.Rep.TheVariants as rep
use Rattle.xp_call.specs.Calls.{is_built}
use Rattle.xp_catalog.specs.Contents.{Contents}
use Rattle.xp_catalog.specs.Lookups.{type_named}
use Rattle.xp_catalog.specs.WellFormed.{IsWellFormed}
use Rattle.xp_io.specs.Representations.{rep_of}
use Rattle.xp_meaning.specs.Evaluable.{is_evaluable, is_one_built, is_two_built, is_many_built, all_evaluable, arms_evaluable}
use Rattle.xp_named.proofs.ArrayTypes.{named_so}
use Rattle.xp_tree.specs.Rests.{is_represented}
use Rattle.xp_tree.specs.Term.{Term, case, checked, domain, leaf, many, one, two, type_of}
use Rattle.xp_tree.specs.Typed.{IsBool}
use Rattle.xp_types.proofs.Built.{over_is}
use Rattle.xp_coerce.specs.Asked.{IsSource}
use Rattle.xp_resolve.proofs.TextTypes.{plain_kept}
use Rattle.xp_analyse.specs.Checks.{is_truth, may_check}
use Rattle.xp_analyse.specs.Domains.{has_domain}

-- what can be evaluated has a value that is represented
evaluable_represented : (t : Term) → is_evaluable is_built t ≡ true → is_represented (type_of t) ≡ true
evaluable_represented (leaf l ty) h = h
evaluable_represented (one o a ty) h = (and_parts (is_one_built o ty) (is_represented ty) (and_parts (is_one_built o ty && is_represented ty) (is_evaluable is_built a) h).0).1
evaluable_represented (two o a b ty) h =
    let built = is_two_built is_built o in
    let all = and_parts (built && is_represented ty && is_evaluable is_built a) (is_evaluable is_built b) h in
    (and_parts built (is_represented ty) (and_parts (built && is_represented ty) (is_evaluable is_built a) all.0).0).1
evaluable_represented (many o args ty) h = (and_parts (is_many_built is_built o) (is_represented ty) (and_parts (is_many_built is_built o && is_represented ty) (all_evaluable is_built args) h).0).1
evaluable_represented (case arms other ty) h =
    (and_parts (is_represented ty) (arms_evaluable is_built arms) (and_parts (is_represented ty && arms_evaluable is_built arms) (is_evaluable is_built other) h).0).0
evaluable_represented (domain a number not_null ty) h = (and_parts (is_represented ty) (is_evaluable is_built a) h).0
evaluable_represented (checked a number not_null check ty) h =
    (and_parts (is_represented ty) (is_evaluable is_built a) (and_parts (is_represented ty && is_evaluable is_built a) (is_evaluable is_built check) h).0).0

-- the type named bool keeps truth values, where its values are represented
pub check_truth : (c : Contents) (t : Term) → IsWellFormed c → IsSource c t → may_check c t ≡ true → IsBool (type_of t)
check_truth c t well source may =
    let parts = and_parts (is_truth c (type_of t).no && not (has_domain t)) (is_evaluable is_built t) may in
    let typed : is_truth c (type_of t).no ≡ true = (and_parts (is_truth c (type_of t).no) (not (has_domain t)) parts.0).0 in
    let named : type_named c (codes "bool") ≡ Some (type_of t).no = over_is (type_of t).no (type_named c (codes "bool")) typed in
    let own : (type_of t).rep ≡ rep_of c (type_of t).no = ap (λ ty. ty.rep) source.type.same in
    elim (plain_kept c (type_of t).no (codes "bool") well (named_so c (codes "bool") (type_of t).no named) refl) [
      | inl bool ↦ own ∙ bool
      | inr opaque ↦
          let represented : is_represented (type_of t) ≡ true = evaluable_represented t parts.1 in
          let opened : (type_of t).rep ≡ rep.Opaque = own ∙ opaque in
          let never : false ≡ true = rw opened at represented in
          absurd (cc never)
    ]
