-- The two functions that are told, where several are left.
use Rattle.std.proofs.Common.{◌≡◌, ℕ, ◌+◌, ◌-◌, List, [], ◌∷◌, Bool, true, false, ◌==◌, cond, length, refl, Option, Some, None, Result, option_map}
use Rattle.std.specs.Prelude.{nat_le, option_and_then}
use Rattle.std.specs.List.{All, list_any}
use Rattle.std.specs.Str.{bytes_eq}
use Rattle.std.proofs.lemmas.List.Elements.{All-filter}
use Rattle.xp_base.specs.declared.numbers.TypeNo.{TypeNo}
use Rattle.xp_base.specs.declared.numbers.RowNo.{RowNo}
use Rattle.xp_catalog.specs.declared.rows.FuncRow.{FuncRow}
use Rattle.xp_catalog.specs.Contents.{Contents}
use Rattle.xp_catalog.specs.Rules.{last_of}
use Rattle.xp_overload.specs.Categories.{or_all}
use Rattle.xp_candidates.specs.Chosen.{AreLeft, IfAmbiguous, chosen, is_at, remaining}
use Rattle.xp_candidates.specs.declared.candidate.Candidate.{Candidate}
use Rattle.xp_candidates.specs.declared.pick.Pick.{Pick}
use Rattle.xp_candidates.proofs.InOrder.{All-listed, InOrder, InOrder-filter, InOrder-forms, OneAt, chosen-ambiguous, two-left}
use Rattle.xp_candidates.proofs.Made.{made-ambiguous}
use Rattle.xp_func.specs.Candidates.{candidates, element_of, expanded_of, expansion, forms_of, is_covered, is_meant, named_forms, own_form, unexpanded, unexpanded_of, unless_covered}
use Rattle.xp_func.specs.Exact.{exact, is_exact}
use Rattle.xp_func.specs.Picked.{AreLeftOf, chosen_call, exact_or, picked_function, request_or}
use Rattle.xp_func.specs.Request.{cast_request}
use Rattle.xp_func.specs.declared.pick.PickedFunc.{PickedFunc}
use Rattle.xp_func.specs.declared.pick.PickedFunc.TheVariants.{Call}

one-at : (place : ℕ) (test : Bool) (candidate : Candidate) → candidate.row.0 ≡ place → OneAt place (cond test (candidate ∷ []) [])
one-at place true candidate at = at
one-at place false candidate at = tt

none-at : (place : ℕ) (test : Bool) (some : List Candidate) → OneAt place some → OneAt place (cond test some [])
none-at place true some at = at
none-at place false some at = tt

uncovered-at : (place : ℕ) (test : Bool) (candidate : Candidate) → candidate.row.0 ≡ place → OneAt place (cond test [] (candidate ∷ []))
uncovered-at place true candidate at = tt
uncovered-at place false candidate at = at

either-at : (place : ℕ) (test : Bool) (one other : List Candidate) → OneAt place one → OneAt place other → OneAt place (cond test one other)
either-at place true one other for_one for_other = for_one
either-at place false one other for_one for_other = for_other

own-at : (name : List ℕ) (count : ℕ) (variadic : Bool) (place : ℕ) (func : FuncRow) → OneAt place (own_form name count variadic place func)
own-at name count variadic place func = one-at place (is_meant name count variadic func) (unexpanded_of place func) refl

expanded-at : (plain : List Candidate) (place : ℕ) (func : FuncRow) (extra : ℕ) (test : Bool) (found : Option TypeNo) → OneAt place (unless_covered plain (cond test (option_map (expanded_of place func extra) found) None))
expanded-at plain place func extra true (Some type) = uncovered-at place (is_covered plain (expanded_of place func extra type)) (expanded_of place func extra type) refl
expanded-at plain place func extra true None = tt
expanded-at plain place func extra false found = tt

form-at : (c : Contents) (name : List ℕ) (count : ℕ) (plain : List Candidate) (place : ℕ) (func : FuncRow) → OneAt place (named_forms c name count plain place func)
form-at c name count plain place func =
    none-at place (bytes_eq func.name name) (forms_of c count plain place func)
    (either-at place func.variadic (unless_covered plain (expansion c count place func)) (cond (length func.args == count) (unexpanded_of place func ∷ []) [])
    (expanded-at plain place func (count + 1 - length func.args) (nat_le (length func.args) count) (option_and_then (element_of c) (last_of func.args)))
    (one-at place (length func.args == count) (unexpanded_of place func) refl))

in-order : (c : Contents) (name : List ℕ) (count : ℕ) (variadic : Bool) → InOrder (candidates c name count variadic)
in-order c name count true = InOrder-forms (own_form name count true) (own-at name count true) 0 c.funcs
in-order c name count false = InOrder-forms (named_forms c name count (unexpanded c name count false)) (form-at c name count (unexpanded c name count false)) 0 c.funcs

request-told : (request : Option TypeNo) (choice : Result PickedFunc Pick) (P : RowNo → RowNo → Type 0) → IfAmbiguous choice P → IfAmbiguous (request_or request choice) P
request-told (Some type) choice P is = tt
request-told None choice P is = is

exact-told : (all some left : List Candidate) (choice : Result PickedFunc Pick) → All (λ x. list_any (is_at x.row) all ≡ true) some → InOrder some → IfAmbiguous choice (AreLeft all left) → IfAmbiguous (exact_or some choice) (AreLeft all (or_all some left))
exact-told all [] left choice listed order is = is
exact-told all (one ∷ []) left choice listed order is = tt
exact-told all (first ∷ second ∷ others) left choice listed order is = two-left all first second others listed order

pub picked-told : (c : Contents) (name : List ℕ) (inputs : List TypeNo) (variadic : Bool) → IfAmbiguous (picked_function c name inputs variadic) (AreLeftOf c name inputs variadic)
picked-told c name inputs variadic =
    let all = candidates c name (length inputs) variadic in
    let order = in-order c name (length inputs) variadic in
    let left = remaining c variadic inputs all in
    exact-told all (exact inputs all) left (request_or (cast_request c name inputs variadic) (chosen_call c variadic inputs all))
    (All-filter (is_exact inputs) (λ x. list_any (is_at x.row) all ≡ true) all (All-listed all))
    (InOrder-filter (is_exact inputs) all order)
    (request-told (cast_request c name inputs variadic) (chosen_call c variadic inputs all) (AreLeft all left)
    (made-ambiguous (λ picked. Call picked.row picked.expanded) (chosen c variadic inputs all) (AreLeft all left) (chosen-ambiguous c variadic inputs all order)))
