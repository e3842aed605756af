-- A function that is picked is one of the candidates.
use Rattle.std.proofs.Common.{◌≡◌, ℕ, List, [], ◌∷◌, Bool, true, length, Option, Some, None, Result, Ok, Err}
use Rattle.std.specs.Prelude.{IfOk}
use Rattle.std.specs.List.{All, list_any}
use Rattle.std.proofs.lemmas.List.Elements.{All-filter, All-head}
use Rattle.xp_base.specs.declared.numbers.TypeNo.{TypeNo}
use Rattle.xp_catalog.specs.Contents.{Contents}
use Rattle.xp_candidates.specs.Chosen.{chosen, is_of, made_of}
use Rattle.xp_candidates.specs.declared.candidate.Candidate.{Candidate}
use Rattle.xp_candidates.specs.declared.pick.Pick.{Pick}
use Rattle.xp_candidates.specs.declared.pick.Picked.{Picked}
use Rattle.xp_candidates.proofs.Among.{All-own, chosen-among, is_one_of}
use Rattle.xp_func.specs.Candidates.{candidates}
use Rattle.xp_func.specs.Exact.{exact, is_exact}
use Rattle.xp_func.specs.Picked.{IsListed, chosen_call, exact_or, picked_function, request_or}
use Rattle.xp_func.specs.Request.{cast_request}
use Rattle.xp_func.specs.declared.pick.PickedFunc.{PickedFunc}
use Rattle.xp_func.specs.declared.pick.PickedFunc.TheVariants.{Call}

module _ (c : Contents) (name : List ℕ) (count : ℕ) (variadic : Bool) where
  made-listed : (choice : Result Picked Pick) → IfOk choice (λ picked. list_any (is_of picked) (candidates c name count variadic) ≡ true) → IfOk (made_of (λ picked. Call picked.row picked.expanded) choice) (IsListed c name count variadic)
  made-listed (Ok picked) is = is
  made-listed (Err pick) is = tt

  request-listed : (request : Option TypeNo) (choice : Result PickedFunc Pick) → IfOk choice (IsListed c name count variadic) → IfOk (request_or request choice) (IsListed c name count variadic)
  request-listed (Some type) choice is = tt
  request-listed None choice is = is

  exact-listed : (some : List Candidate) (choice : Result PickedFunc Pick) → All (λ candidate. is_one_of (candidates c name count variadic) candidate ≡ true) some → IfOk choice (IsListed c name count variadic) → IfOk (exact_or some choice) (IsListed c name count variadic)
  exact-listed [] choice each is = is
  exact-listed (one ∷ []) choice each is = All-head (λ candidate. is_one_of (candidates c name count variadic) candidate ≡ true) one [] each
  exact-listed (first ∷ second ∷ others) choice each is = tt

pub picked-listed : (c : Contents) (name : List ℕ) (inputs : List TypeNo) (variadic : Bool) → IfOk (picked_function c name inputs variadic) (IsListed c name (length inputs) variadic)
picked-listed c name inputs variadic =
    let count = length inputs in
    let all = candidates c name count variadic in
    exact-listed c name count variadic (exact inputs all) (request_or (cast_request c name inputs variadic) (chosen_call c variadic inputs all))
    (All-filter (is_exact inputs) (λ candidate. is_one_of all candidate ≡ true) all (All-own all))
    (request-listed c name count variadic (cast_request c name inputs variadic) (chosen_call c variadic inputs all)
    (made-listed c name count variadic (chosen c variadic inputs all) (chosen-among c variadic inputs all)))
