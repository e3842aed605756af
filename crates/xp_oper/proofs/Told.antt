-- The two operators that are told, where several are left.
use Rattle.std.proofs.Common.{◌≡◌, ℕ, List, [], ◌∷◌, Bool, true, false, cond, length, refl, Option, Some, None}
use Rattle.xp_base.specs.declared.numbers.TypeNo.{TypeNo}
use Rattle.xp_base.specs.declared.numbers.RowNo.{RowNo}
use Rattle.xp_catalog.specs.declared.rows.OperRow.{OperRow}
use Rattle.xp_catalog.specs.Contents.{Contents}
use Rattle.xp_candidates.specs.Chosen.{IfAmbiguous, chosen}
use Rattle.xp_candidates.specs.declared.candidate.Candidate.{Candidate}
use Rattle.xp_candidates.proofs.InOrder.{InOrder-forms, OneAt, chosen-ambiguous}
use Rattle.xp_candidates.proofs.Made.{made-ambiguous}
use Rattle.xp_oper.specs.Candidates.{candidate_of, candidates, form_of, is_meant}
use Rattle.xp_oper.specs.Exact.{matched}
use Rattle.xp_oper.specs.Picked.{AreLeftOf, chosen_operator, found_or, picked_operator}

one-at : (place : ℕ) (test : Bool) (candidate : Candidate) → candidate.row.0 ≡ place → OneAt place (cond test (candidate ∷ []) [])
one-at place true candidate at = at
one-at place false candidate at = tt

each-at : (c : Contents) (name : List ℕ) (count place : ℕ) (oper : OperRow) → OneAt place (form_of c name count place oper)
each-at c name count place oper = one-at place (is_meant name count oper) (candidate_of c place oper) refl

pub choice-told : (c : Contents) (name : List ℕ) (inputs : List TypeNo) → IfAmbiguous (chosen_operator c name inputs) (AreLeftOf c name inputs)
choice-told c name inputs =
    let all = candidates c name (length inputs) in
    made-ambiguous (λ picked. picked.row) (chosen c false inputs all) (AreLeftOf c name inputs) (chosen-ambiguous c false inputs all (InOrder-forms (form_of c name (length inputs)) (each-at c name (length inputs)) 0 c.opers))

pub picked-told : (c : Contents) (name : List ℕ) (inputs : List TypeNo) → IfAmbiguous (picked_operator c name inputs) (AreLeftOf c name inputs)
picked-told c name inputs = by (matched c name inputs)
  where
    by : (found : Option RowNo) → IfAmbiguous (found_or found (chosen_operator c name inputs)) (AreLeftOf c name inputs)
    by (Some row) = tt
    by None = choice-told c name inputs
