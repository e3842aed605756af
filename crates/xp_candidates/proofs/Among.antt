-- The record that is chosen is one of the candidates'.
use Rattle.std.proofs.Common.{◌≡◌, ℕ, ◌<◌, List, [], ◌∷◌, Bool, true, false, ◌||◌, cond, Ok, Err, arith, get_or}
use Rattle.std.specs.Prelude.{IfOk}
use Rattle.std.specs.List.{All, list_any}
use Rattle.std.proofs.lemmas.Bool.Decides.{nat_tests}
use Rattle.std.proofs.lemmas.List.Elements.{All-head, All-tail}
use Rattle.std.proofs.lemmas.List.Folds.{list_any_at}
use Rattle.xp_base.specs.declared.numbers.TypeNo.{TypeNo}
use Rattle.xp_catalog.specs.Contents.{Contents}
use Rattle.xp_candidates.specs.Bound.{binds}
use Rattle.xp_candidates.specs.Chosen.{chosen, is_of, outcome, remaining}
use Rattle.xp_candidates.specs.declared.pick.Pick.TheVariants.{Undefined}
use Rattle.xp_candidates.specs.declared.candidate.Candidate.{Candidate}
use Rattle.xp_candidates.specs.declared.pick.Picked.{Picked}
use Rattle.xp_candidates.proofs.InOrder.{All-remaining}

row-of : (count : ℕ) (picked : Picked) (candidate : Candidate) → candidate.row.0 < count → is_of picked candidate ≡ true → picked.row.0 < count
row-of count picked candidate within is = grind (arith, nat_tests)

among-step : (count : ℕ) (picked : Picked) (here rest : Bool) → (here ≡ true → picked.row.0 < count) → (rest ≡ true → picked.row.0 < count) → (here || rest) ≡ true → picked.row.0 < count
among-step count picked true rest first onward is = first is
among-step count picked false rest first onward is = onward is

pub row-among : (count : ℕ) (picked : Picked) (candidates : List Candidate) → All (λ candidate. candidate.row.0 < count) candidates → list_any (is_of picked) candidates ≡ true → picked.row.0 < count
row-among count picked [] each is = cc
row-among count picked (candidate ∷ candidates) each is =
    among-step count picked (is_of picked candidate) (list_any (is_of picked) candidates) (row-of count picked candidate (All-head (λ candidate. candidate.row.0 < count) candidate candidates each)) (row-among count picked candidates (All-tail (λ candidate. candidate.row.0 < count) candidate candidates each)) is

is_of-own : (candidate : Candidate) → is_of (record { row = candidate.row; expanded = candidate.expanded }) candidate ≡ true
is_of-own candidate = grind (arith, nat_tests)

-- it is one of these
abbrev pub is_one_of : List Candidate → Candidate → Bool
is_one_of candidates candidate = list_any (is_of (record { row = candidate.row; expanded = candidate.expanded })) candidates

-- each is one of them
pub All-own : (candidates : List Candidate) → All (λ candidate. is_one_of candidates candidate ≡ true) candidates
All-own candidates = λ k d within.
    let one = get_or candidates k d in
    list_any_at (is_of (record { row = one.row; expanded = one.expanded })) candidates k d within (is_of-own one)

outcome-among : (c : Contents) (inputs : List TypeNo) (candidates some : List Candidate) → All (λ candidate. is_one_of candidates candidate ≡ true) some → IfOk (outcome c inputs some) (λ picked. list_any (is_of picked) candidates ≡ true)
outcome-among c inputs candidates [] each = tt
outcome-among c inputs candidates (one ∷ []) each = by (binds c inputs one)
  where
    by : (test : Bool) → IfOk (cond test (Ok (record { row = one.row; expanded = one.expanded })) (Err Undefined)) (λ picked. list_any (is_of picked) candidates ≡ true)
    by true = All-head (λ candidate. is_one_of candidates candidate ≡ true) one [] each
    by false = tt
outcome-among c inputs candidates (first ∷ second ∷ others) each = tt

-- the one that the steps choose is among them
pub chosen-among : (c : Contents) (variadic : Bool) (inputs : List TypeNo) (candidates : List Candidate) → IfOk (chosen c variadic inputs candidates) (λ picked. list_any (is_of picked) candidates ≡ true)
chosen-among c variadic inputs candidates =
    outcome-among c inputs candidates (remaining c variadic inputs candidates) (All-remaining (λ candidate. is_one_of candidates candidate ≡ true) c variadic inputs candidates (All-own candidates))
