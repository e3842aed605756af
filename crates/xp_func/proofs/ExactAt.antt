-- The exact matches that a mask marks.
use Rattle.std.proofs.Common.{◌≡◌, ℕ, zero, suc, ◌<◌, List, [], ◌∷◌, Bool, length, map, refl, ap, arith, subst, sym, ◌∙◌, Result, Ok, Err}
use Rattle.std.specs.Prelude.{slice_index_or}
use Rattle.xp_base.specs.declared.numbers.TypeNo.{TypeNo}
use Rattle.xp_overload.specs.Places.{kept}
use Rattle.xp_candidates.specs.inner.Marked.{IsWithin, candidate_at, first_two, those}
use Rattle.xp_candidates.specs.declared.candidate.Candidate.{Candidate}
use Rattle.xp_candidates.specs.declared.marked.Marked.{Marked}
use Rattle.xp_candidates.specs.declared.marked.Marked.TheVariants.{One, Several}
use Rattle.xp_candidates.specs.declared.pick.Pick.{Pick}
use Rattle.xp_candidates.specs.declared.pick.Pick.TheVariants.{Ambiguous}
use Rattle.xp_candidates.proofs.Places.{those-marked}
use Rattle.xp_func.specs.Exact.{exact, is_exact}
use Rattle.xp_func.specs.Picked.{exact_or}
use Rattle.xp_func.specs.inner.ExactAt.{exact_at}
use Rattle.xp_func.specs.declared.pick.PickedFunc.{PickedFunc}
use Rattle.xp_func.specs.declared.pick.PickedFunc.TheVariants.{Call}

by-places : (candidates : List Candidate) (places : List ℕ) (choice : Result PickedFunc Pick) → exact_at candidates (first_two places) choice ≡ exact_or (those candidates places) choice
by-places candidates [] choice = refl
by-places candidates (place ∷ []) choice = refl
by-places candidates (first ∷ second ∷ places) choice = refl

pub by_marked : (inputs : List TypeNo) (candidates : List Candidate) (marked : Marked) (choice : Result PickedFunc Pick) → marked ≡ first_two (kept (map (is_exact inputs) candidates)) → exact_at candidates marked choice ≡ exact_or (exact inputs candidates) choice
by_marked inputs candidates marked choice is =
    ap (λ it. exact_at candidates it choice) is ∙ by-places candidates (kept (map (is_exact inputs) candidates)) choice ∙ ap (λ some. exact_or some choice) (those-marked (is_exact inputs) candidates)

-- as many are marked as there are candidates
as-many : (test : Candidate → Bool) (candidates : List Candidate) → length (map test candidates) ≡ length candidates
as-many test [] = refl
as-many test (candidate ∷ candidates) = ap (λ n. suc n) (as-many test candidates)

pub within_marked : (test : Candidate → Bool) (candidates : List Candidate) (marks : List Bool) (marked : Marked) → marks ≡ map test candidates → IsWithin (length marks) marked → IsWithin (length candidates) marked
within_marked test candidates marks marked is within = subst (λ count. IsWithin count marked) (ap length is ∙ as-many test candidates) within

pub exact_is : (inputs : List TypeNo) (candidates : List Candidate) (marked other : Marked) (choice : Result PickedFunc Pick) → marked ≡ first_two (kept (map (is_exact inputs) candidates)) → marked ≡ other → exact_at candidates other choice ≡ exact_or (exact inputs candidates) choice
exact_is inputs candidates marked other choice is same = ap (λ it. exact_at candidates it choice) (sym same) ∙ by_marked inputs candidates marked choice is

at_any : (candidates : List Candidate) (place : ℕ) (other : Candidate) → place < length candidates → slice_index_or candidates place other ≡ candidate_at candidates place
at_any [] place other within = absurd (omega arith)
at_any (candidate ∷ candidates) zero other within = refl
at_any (candidate ∷ candidates) (suc place) other within = at_any candidates place other (omega arith)

pub exact_one : (inputs : List TypeNo) (candidates : List Candidate) (marked : Marked) (place : ℕ) (choice : Result PickedFunc Pick) (d e : Candidate) → marked ≡ first_two (kept (map (is_exact inputs) candidates)) → marked ≡ One place → IsWithin (length candidates) marked → exact_or (exact inputs candidates) choice ≡ Ok (Call (slice_index_or candidates place d).row (slice_index_or candidates place e).expanded)
exact_one inputs candidates marked place choice d e is same within =
    let below : place < length candidates = subst (IsWithin (length candidates)) same within in
    sym (exact_is inputs candidates marked (One place) choice is same)
    ∙ ap (λ it. Ok (Call it.row (candidate_at candidates place).expanded)) (sym (at_any candidates place d below))
    ∙ ap (λ it. Ok (Call (slice_index_or candidates place d).row it.expanded)) (sym (at_any candidates place e below))

pub exact_two : (inputs : List TypeNo) (candidates : List Candidate) (marked : Marked) (first second : ℕ) (choice : Result PickedFunc Pick) (d e : Candidate) → marked ≡ first_two (kept (map (is_exact inputs) candidates)) → marked ≡ Several first second → IsWithin (length candidates) marked → exact_or (exact inputs candidates) choice ≡ Err (Ambiguous (slice_index_or candidates first d).row (slice_index_or candidates second e).row)
exact_two inputs candidates marked first second choice d e is same within =
    let below : (first < length candidates) × (second < length candidates) = subst (IsWithin (length candidates)) same within in
    sym (exact_is inputs candidates marked (Several first second) choice is same)
    ∙ ap (λ it. Err (Ambiguous it.row (candidate_at candidates second).row)) (sym (at_any candidates first d below.0))
    ∙ ap (λ it. Err (Ambiguous (slice_index_or candidates first d).row it.row)) (sym (at_any candidates second e below.1))
