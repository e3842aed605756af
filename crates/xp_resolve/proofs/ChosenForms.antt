-- What holds of the record that is chosen.
use Rattle.std.proofs.Common.{◌≡◌, ℕ, ◌+◌, ◌-◌, ◌≤◌, ◌==◌, List, [], ◌∷◌, ◌++◌, Bool, true, false, ◌&&◌, cond, length, replicate, take, zip, refl, sym, ◌∙◌, ap, arith, Option, Some, None, Result, Ok, Err, slice_get}
use Rattle.std.specs.Prelude.{IfOk}
use Rattle.xp_base.specs.OrMemory.{OrMemory}
use Rattle.xp_named.specs.declared.refusal.Refusal.{Refusal}
use Rattle.std.specs.List.{All}
use Rattle.std.proofs.lemmas.List.{length-append, length-replicate, length-take-le}
use Rattle.xp_base.specs.declared.codes.Code.TheVariants as code
use Rattle.xp_base.specs.declared.numbers.RowNo.{RowNo}
use Rattle.xp_base.specs.declared.numbers.TypeNo.{TypeNo}
use Rattle.xp_catalog.specs.declared.rows.FuncRow.{FuncRow}
use Rattle.xp_catalog.specs.Contents.{Contents}
use Rattle.xp_types.specs.Readers.{is_known}
use Rattle.xp_types.specs.Within.{IsType}
use Rattle.xp_poly.specs.Bound.{bonds, bound, concrete_types, is_indeterminate}
use Rattle.xp_poly.specs.declared.bound.Binding.TheVariants.{Concrete, Indeterminate}
use Rattle.xp_candidates.specs.declared.candidate.Candidate.{Candidate}
use Rattle.xp_resolve.specs.Calls as spec
use Rattle.xp_resolve.specs.Calls.{bound_pairs}
use Rattle.xp_resolve.specs.Made.{is_memory, refused}
use Rattle.xp_resolve.specs.Nodes.{taking_of}
use Rattle.xp_resolve.specs.Targets.{is_last, target_of, targets, targets_of}
use Rattle.xp_resolve.specs.declared.choice.Choice.{Choice}
use Rattle.xp_resolve.specs.declared.nodes.Taking.{Taking}
use Rattle.xp_resolve.specs.declared.targets.Target.{Target}
use Rattle.xp_resolve.specs.inner.Choices.{IsChoice, IsForm}
use Rattle.xp_resolve.specs.inner.Sources.{IsTarget}
use Rattle.xp_resolve.proofs.ArgsStand.{length_pairs, spread_is}
use Rattle.xp_resolve.proofs.Forms.{few_spread, form_arity}

-- ---- there is a target for each

length_targets : (c : Contents) (taking : Taking) (variadic : Bool) (before list : List Target) (pairs : List (TypeNo × TypeNo)) → targets taking c variadic before pairs ≡ Some list → length list ≡ length before + length pairs
length_targets c taking variadic before list [] is =
    let same : before ≡ list = cc in
    rw (← same) (omega arith)
length_targets c taking variadic before list (pair ∷ pairs) is =
    go (target_of taking c (variadic && is_last pairs) pair) refl (λ t. length_targets c taking variadic (before ++ t ∷ []) list pairs)
  where
    go : (o : Option Target) → target_of taking c (variadic && is_last pairs) pair ≡ o → ((t : Target) → targets taking c variadic (before ++ t ∷ []) pairs ≡ Some list → length list ≡ length (before ++ t ∷ []) + length pairs) → length list ≡ length before + length (pair ∷ pairs)
    go None none rest = let never : None ≡ Some list = rw none at is in absurd (cc never)
    go (Some t) found rest =
        let onward : targets taking c variadic (before ++ t ∷ []) pairs ≡ Some list = rw found at is in
        let counted : length (before ++ t ∷ []) ≡ length before + 1 = length-append before (t ∷ []) in
        omega (arith, rest t onward, counted)

length_targeted : (c : Contents) (taking : Taking) (variadic : Bool) (extra : ℕ) (pairs : List (TypeNo × TypeNo)) (list : List Target) → extra ≤ length pairs → targets_of taking c variadic extra pairs ≡ Some list → length list ≡ length pairs
length_targeted c taking variadic extra pairs list few is = go (extra == 0) refl
  where
    go : (b : Bool) → (extra == 0) ≡ b → length list ≡ length pairs
    go true test = let own : targets taking c variadic [] pairs ≡ Some list = rw test at is in omega (arith, length_targets c taking variadic [] list pairs own)
    go false test =
        let own = spread_is c taking variadic extra pairs list test is in
        let front : length own.front ≡ 0 + length (take (length pairs - extra) pairs) = length_targets c taking false [] own.front (take (length pairs - extra) pairs) own.targeted in
        let taken : length (take (length pairs - extra) pairs) ≡ length pairs - extra = length-take-le (length pairs - extra) pairs (omega arith) in
        let counted : length list ≡ length own.front + extra = ap length own.is ∙ length-append own.front (replicate extra own.each) ∙ ap (λ n. length own.front + n) (length-replicate extra own.each) in
        omega (arith, front, taken, counted, few)

-- ---- the record

pub record IsTargeted (c : Contents) (row : RowNo) (func : FuncRow) (candidate : Candidate) (inputs : List TypeNo) (result : TypeNo) (choice : Choice) : Type 0 where
  pub list : List Target
  pub known : is_known result ≡ true
  pub targeted : targets_of (taking_of func.body) c func.variadic candidate.expanded (bound_pairs c candidate.declared inputs) ≡ Some list
  pub is : record { row = row; extra = candidate.expanded; targets = list; result = result } ≡ choice

targeted_is : (c : Contents) (at : ℕ) (row : RowNo) (func : FuncRow) (candidate : Candidate) (inputs : List TypeNo) (result : TypeNo) (choice : Choice) → spec.bound_choice c at row func candidate inputs (Concrete result) ≡ Ok choice → IsTargeted c row func candidate inputs result choice
targeted_is c at row func candidate inputs result choice said = go (is_known result) refl
  where
    found : is_known result ≡ true → (o : Option (List Target)) → targets_of (taking_of func.body) c func.variadic candidate.expanded (bound_pairs c candidate.declared inputs) ≡ o → IsTargeted c row func candidate inputs result choice
    found known None none = let never : refused code.Undefined at ≡ Ok choice = rw (known, none) at said in absurd (cc never)
    found known (Some list) is =
        let shown : Ok (record { row = row; extra = candidate.expanded; targets = list; result = result }) ≡ Ok choice = rw (known, is) at said in
        record { list = list; known = known; targeted = is; is = cc }

    go : (b : Bool) → is_known result ≡ b → IsTargeted c row func candidate inputs result choice
    go false unknown = let never : refused code.Undefined at ≡ Ok choice = rw unknown at said in absurd (cc never)
    go true known = found known (targets_of (taking_of func.body) c func.variadic candidate.expanded (bound_pairs c candidate.declared inputs)) refl

pub choice_is : (c : Contents) (at : ℕ) (row : RowNo) (func : FuncRow) (candidate : Candidate) (inputs : List TypeNo) (result : TypeNo) (choice : Choice) → slice_get c.funcs row.0 ≡ Some func → IsForm func (length inputs) candidate → IsType c result → All (IsTarget c) choice.targets → spec.bound_choice c at row func candidate inputs (Concrete result) ≡ Ok choice → IsChoice c choice
choice_is c at row func candidate inputs result choice there stands within all said =
    let own = targeted_is c at row func candidate inputs result choice said in
    let targets_same : own.list ≡ choice.targets = ap (λ (a : Choice). a.targets) own.is in
    let extra_same : candidate.expanded ≡ choice.extra = ap (λ (a : Choice). a.extra) own.is in
    let result_same : result ≡ choice.result = ap (λ (a : Choice). a.result) own.is in
    let row_same : row ≡ choice.row = ap (λ (a : Choice). a.row) own.is in
    record {
      inputs = inputs;
      func = func;
      candidate = candidate;
      there = rw (← row_same) there;
      stands = stands;
      extra = sym extra_same;
      targeted = rw (← extra_same, ← targets_same) own.targeted;
      within = all;
      result = rw (← result_same) within;
      known = rw (← result_same) own.known;
    }

pub choice_count : (c : Contents) (at : ℕ) (row : RowNo) (func : FuncRow) (candidate : Candidate) (inputs : List TypeNo) (result : TypeNo) (choice : Choice) → IsForm func (length inputs) candidate → spec.bound_choice c at row func candidate inputs (Concrete result) ≡ Ok choice → length choice.targets ≡ length inputs
choice_count c at row func candidate inputs result choice stands said =
    let own = targeted_is c at row func candidate inputs result choice said in
    let counted : length (bound_pairs c candidate.declared inputs) ≡ length inputs = length_pairs c (bonds c (zip candidate.declared inputs)) candidate.declared inputs (form_arity func (length inputs) candidate stands) in
    let few : candidate.expanded ≤ length (bound_pairs c candidate.declared inputs) = (let own_few = few_spread func (length inputs) candidate stands in omega (arith, own_few, counted)) in
    let list : length own.list ≡ length (bound_pairs c candidate.declared inputs) = length_targeted c (taking_of func.body) func.variadic candidate.expanded (bound_pairs c candidate.declared inputs) own.list few own.targeted in
    let same : own.list ≡ choice.targets = ap (λ (a : Choice). a.targets) own.is in
    rw (← same) (list ∙ counted)

-- ---- what binding says

concrete_is : (c : Contents) (declared : List TypeNo) (result_type : TypeNo) (inputs : List TypeNo) (result : TypeNo) → bound c declared result_type inputs ≡ Concrete result → is_indeterminate c declared inputs ≡ false
concrete_is c declared result_type inputs result is = go (is_indeterminate c declared inputs) refl
  where
    go : (b : Bool) → is_indeterminate c declared inputs ≡ b → is_indeterminate c declared inputs ≡ false
    go true test = let never : Indeterminate ≡ Concrete result = rw test at is in absurd (cc never)
    go false test = test

pairs_are : (c : Contents) (declared : List TypeNo) (result_type : TypeNo) (inputs old types : List TypeNo) (result : TypeNo) → bound c declared result_type inputs ≡ Concrete result → types ≡ cond (is_indeterminate c declared inputs) old (concrete_types c (zip declared inputs)) → zip declared types ≡ bound_pairs c declared inputs
pairs_are c declared result_type inputs old types result is out =
    let test : is_indeterminate c declared inputs ≡ false = concrete_is c declared result_type inputs result is in
    let own : types ≡ concrete_types c (zip declared inputs) = rw test at out in
    ap (zip declared) own

-- what is made for the types that stand is made of what binding says
pub made_of_bound : (c : Contents) (at : ℕ) (row : RowNo) (func : FuncRow) (candidate : Candidate) (inputs old types : List TypeNo) (result : TypeNo) (made : Result Choice Refusal) → bound c candidate.declared candidate.result_type inputs ≡ Concrete result → types ≡ cond (is_indeterminate c candidate.declared inputs) old (concrete_types c (zip candidate.declared inputs)) → is_known result ≡ true → OrMemory is_memory (spec.targeted c at row func candidate result (zip candidate.declared types)) made → OrMemory is_memory (spec.bound_choice c at row func candidate inputs (Concrete result)) made
made_of_bound c at row func candidate inputs old types result made is out known said =
    rw known (rw (pairs_are c candidate.declared candidate.result_type inputs old types result is out) at said)

-- ---- what is made

pub ok_choice : (c : Contents) (at : ℕ) (row : RowNo) (func : FuncRow) (candidate : Candidate) (inputs : List TypeNo) (result : TypeNo) (made : Result Choice Refusal) → slice_get c.funcs row.0 ≡ Some func → IsForm func (length inputs) candidate → IsType c result → IfOk made (λ choice. All (IsTarget c) choice.targets) → OrMemory is_memory (spec.bound_choice c at row func candidate inputs (Concrete result)) made → IfOk made (IsChoice c)
ok_choice c at row func candidate inputs result (Ok choice) there stands within all said = choice_is c at row func candidate inputs result choice there stands within all said
ok_choice c at row func candidate inputs result (Err why) there stands within all said = tt

pub ok_count : (c : Contents) (at : ℕ) (row : RowNo) (func : FuncRow) (candidate : Candidate) (inputs : List TypeNo) (result : TypeNo) (made : Result Choice Refusal) → IsForm func (length inputs) candidate → OrMemory is_memory (spec.bound_choice c at row func candidate inputs (Concrete result)) made → IfOk made (λ choice. length choice.targets ≡ length inputs)
ok_count c at row func candidate inputs result (Ok choice) stands said = choice_count c at row func candidate inputs result choice stands said
ok_count c at row func candidate inputs result (Err why) stands said = tt
