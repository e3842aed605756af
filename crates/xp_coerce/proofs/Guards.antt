-- That the node of a domain has what it asks for.
use Rattle.std.proofs.Common.{◌≡◌, suc, ◌==◌, List, [], ◌∷◌, Bool, true, false, cond, Option, Some, None, IfSome, arith}
use Rattle.xp_base.specs.declared.numbers.RowNo.{RowNo}
use Rattle.xp_tree.specs.declared.checks.DomainCheck.{DomainCheck}
use Rattle.xp_tree.specs.declared.parts.NodeType.{NodeType}
use Rattle.xp_tree.specs.Checked.{check_of}
use Rattle.xp_tree.specs.Term.{Term, type_of}
use Rattle.xp_tree.specs.Typed.{IsBool, IsTyped, SameRep}
use Rattle.xp_tree.specs.View.{checked_by}
use Rattle.xp_coerce.specs.Asked.{AreTruths}

first_or : (b : Bool) (check : Term) (others : Option Term) → IsBool (type_of check) → IfSome others (λ t. IsBool (type_of t)) → IfSome (cond b (Some check) others) (λ t. IsBool (type_of t))
first_or true check others first rest = first
first_or false check others first rest = rest

-- the check of a domain is a truth value
truth_of : (checks : List DomainCheck) (domain : RowNo) → AreTruths checks → IfSome (check_of checks domain) (λ t. IsBool (type_of t))
truth_of [] domain truths = tt
truth_of (entry ∷ rest) domain truths =
    first_or (entry.domain.0 == domain.0) entry.check (check_of rest domain) (truths 0 entry (omega arith)) (truth_of rest domain (λ k d within. truths (suc k) d (omega arith)))

pub found_truth : (checks : List DomainCheck) (domain : RowNo) (check : Term) → check_of checks domain ≡ Some check → AreTruths checks → IsBool (type_of check)
found_truth checks domain check is truths = rw is at (truth_of checks domain truths)

pub domain_typed : (t : Term) (domain : RowNo) (not_null : Bool) (check : Option Term) (ty : NodeType) → IsTyped t → SameRep (type_of t) ty → IfSome check IsTyped → IfSome check (λ t. IsBool (type_of t)) → IsTyped (checked_by t domain not_null check ty)
domain_typed t domain not_null None ty own kept typed truth = (kept, own)
domain_typed t domain not_null (Some check) ty own kept typed truth = (kept, truth, own, typed)
