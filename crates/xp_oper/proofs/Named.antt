-- What is picked is one of the candidates.
use Rattle.std.proofs.Common.{◌≡◌, ℕ, suc, List, [], ◌∷◌, Bool, true, false, ◌==◌, cond, length, refl, ap, subst, arith, Option, Some, None, Result, Ok, Err, position, option_map}
use Rattle.std.specs.Prelude.{IfOk, slice_get}
use Rattle.std.specs.List.{list_all, list_any}
use Rattle.std.specs.Option.{option_or}
use Rattle.std.specs.Str.{bytes_eq}
use Rattle.std.proofs.lemmas.Bool.{and_from, and_parts, or_left}
use Rattle.std.proofs.lemmas.Bool.Decides.{nat_tests}
use Rattle.xp_base.specs.declared.numbers.TypeNo.{TypeNo}
use Rattle.xp_base.specs.declared.numbers.RowNo.{RowNo}
use Rattle.xp_catalog.specs.declared.rows.OperRow.{OperRow}
use Rattle.xp_catalog.specs.Contents.{Contents}
use Rattle.xp_catalog.specs.Lookups.{has_operands, oper_at, operands, row_number, same_types}
use Rattle.xp_types.specs.Readers.{base}
use Rattle.xp_types.proofs.Places.{place_holds}
use Rattle.xp_candidates.specs.Chosen.{chosen, is_at, is_of, made_of}
use Rattle.xp_candidates.specs.declared.candidate.Candidate.{Candidate}
use Rattle.xp_candidates.specs.declared.pick.Pick.{Pick}
use Rattle.xp_candidates.specs.declared.pick.Picked.{Picked}
use Rattle.xp_candidates.proofs.Among.{chosen-among}
use Rattle.xp_candidates.proofs.Listed.{any-formed}
use Rattle.xp_oper.specs.Candidates.{candidates, form_of, is_meant}
use Rattle.xp_oper.specs.Exact.{assumed, both, exact, matched, may_match, other_operand}
use Rattle.xp_oper.specs.Picked.{IsListed, chosen_operator, found_or, picked_operator}

same-length : (xs ys : List TypeNo) → same_types xs ys ≡ true → length xs ≡ length ys
same-length [] [] is = refl
same-length [] (y ∷ ys) is = cc
same-length (x ∷ xs) [] is = cc
same-length (x ∷ xs) (y ∷ ys) is = ap (λ n. suc n) (same-length xs ys (and_parts (x.0 == y.0) (same_types xs ys) is).1)

meant : (name : List ℕ) (types : List TypeNo) (oper : OperRow) → has_operands name types oper ≡ true → is_meant name (length types) oper ≡ true
meant name types oper is =
    let parts = and_parts (bytes_eq oper.name name) (same_types (operands oper.left oper.right) types) is in
    let count = same-length (operands oper.left oper.right) types parts.1 in
    and_from (bytes_eq oper.name name) (length (operands oper.left oper.right) == length types) parts.0 (grind (arith, nat_tests, count))

listed : (c : Contents) (name : List ℕ) (count place : ℕ) (oper : OperRow) → slice_get c.opers place ≡ Some oper → is_meant name count oper ≡ true → IsListed c name count (row_number place)
listed c name count place oper at is =
    let own : place == place ≡ true = grind (arith, nat_tests) in
    let here : list_any (is_at (row_number place)) (form_of c name count place oper) ≡ true = rw is (or_left (place == place) false own) in
    any-formed (is_at (row_number place)) (form_of c name count) 0 c.opers place oper at (subst (λ k. list_any (is_at (row_number place)) (form_of c name count k oper) ≡ true) (omega arith) here)

two-operands : (inputs : List TypeNo) (type : TypeNo) → other_operand inputs ≡ Some type → 2 ≡ length inputs
two-operands [] type is = cc
two-operands (x ∷ []) type is = cc
two-operands (x ∷ y ∷ []) type is = refl
two-operands (x ∷ y ∷ z ∷ zs) type is = cc

oper-listed : (c : Contents) (name : List ℕ) (types : List TypeNo) (place : Option ℕ) (row : RowNo) → position (has_operands name types) c.opers ≡ place → option_map row_number place ≡ Some row → IsListed c name (length types) row
oper-listed c name types None row at is = cc
oper-listed c name types (Some place) row at is =
    let same : row_number place ≡ row = cc in
    let found = place_holds (has_operands name types) c.opers place at in
    subst (IsListed c name (length types)) same (listed c name (length types) place found.0 found.1 (meant name types found.0 found.2))

exact-listed : (c : Contents) (name : List ℕ) (types : List TypeNo) (row : RowNo) → exact c name types ≡ Some row → IsListed c name (length types) row
exact-listed c name types row is = by (list_all (may_match c) types) is
  where
    by : (test : Bool) → cond test (oper_at c name types) None ≡ Some row → IsListed c name (length types) row
    by true is = oper-listed c name types (position (has_operands name types) c.opers) row refl is
    by false is = cc

either : (c : Contents) (name : List ℕ) (count : ℕ) (first second : Option RowNo) (row : RowNo) → (first ≡ Some row → IsListed c name count row) → (second ≡ Some row → IsListed c name count row) → option_or first second ≡ Some row → IsListed c name count row
either c name count (Some it) second row here there is = here is
either c name count None second row here there is = there is

assumed-listed : (c : Contents) (name : List ℕ) (inputs : List TypeNo) (row : RowNo) (type : Option TypeNo) → other_operand inputs ≡ type → assumed c name type ≡ Some row → IsListed c name (length inputs) row
assumed-listed c name inputs row None from is = cc
assumed-listed c name inputs row (Some type) from is =
    let two : 2 ≡ length inputs = two-operands inputs type from in
    subst (λ count. IsListed c name count row) two (either c name 2 (exact c name (both type)) (exact c name (both (base c type))) row (exact-listed c name (both type) row) (exact-listed c name (both (base c type)) row) is)

matched-listed : (c : Contents) (name : List ℕ) (inputs : List TypeNo) (row : RowNo) → matched c name inputs ≡ Some row → IsListed c name (length inputs) row
matched-listed c name inputs row is = either c name (length inputs) (exact c name inputs) (assumed c name (other_operand inputs)) row (exact-listed c name inputs row) (assumed-listed c name inputs row (other_operand inputs) refl) is

row-any : (picked : Picked) (candidates : List Candidate) → list_any (is_of picked) candidates ≡ true → list_any (is_at picked.row) candidates ≡ true
row-any picked [] is = is
row-any picked (candidate ∷ candidates) is = grind (arith, nat_tests, is, row-any picked candidates)

made-listed : (c : Contents) (name : List ℕ) (count : ℕ) (choice : Result Picked Pick) → IfOk choice (λ picked. list_any (is_of picked) (candidates c name count) ≡ true) → IfOk (made_of (λ picked. picked.row) choice) (IsListed c name count)
made-listed c name count (Ok picked) is = row-any picked (candidates c name count) is
made-listed c name count (Err pick) is = tt

pub picked-listed : (c : Contents) (name : List ℕ) (inputs : List TypeNo) → IfOk (picked_operator c name inputs) (IsListed c name (length inputs))
picked-listed c name inputs = by (matched c name inputs) refl
  where
    by : (found : Option RowNo) → matched c name inputs ≡ found → IfOk (found_or found (chosen_operator c name inputs)) (IsListed c name (length inputs))
    by (Some row) is = matched-listed c name inputs row is
    by None is = made-listed c name (length inputs) (chosen c false inputs (candidates c name (length inputs))) (chosen-among c false inputs (candidates c name (length inputs)))
