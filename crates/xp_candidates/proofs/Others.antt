-- Functions and operators are nothing to the choice, once the candidates are listed.
use Rattle.std.proofs.Common.{◌≡◌, List, [], ◌∷◌, Bool, ◌&&◌, ◌||◌, not, cond, map, refl, ◌∙◌, ap, Option, Some, None, Ok, Err}
use Rattle.std.specs.Prelude.{filter, zip}
use Rattle.xp_base.specs.declared.numbers.TypeNo.{TypeNo}
use Rattle.xp_catalog.specs.declared.rows.FuncRow.{FuncRow}
use Rattle.xp_catalog.specs.declared.rows.OperRow.{OperRow}
use Rattle.xp_catalog.specs.Contents.{Contents}
use Rattle.xp_catalog.specs.Rules.{last_of}
use Rattle.xp_types.proofs.Others.{with_calls}
use Rattle.xp_overload.specs.Categories.{of_category}
use Rattle.xp_overload.specs.Choosing.{or_all_unless_one}
use Rattle.xp_overload.specs.Matches.{most_exact, most_preferred}
use Rattle.xp_poly.specs.Bound.{bound, concrete_types}
use Rattle.xp_poly.proofs.Others.{accepts-same, bound-same, concrete_types-same}
use Rattle.xp_candidates.specs.Accepted.{accepts_variadic_any, takes, takes_as}
use Rattle.xp_candidates.specs.Bound.{binds, is_there}
use Rattle.xp_candidates.specs.Known.{bases, known_type, taken_as}
use Rattle.xp_candidates.specs.Slots.{slots_of}
use Rattle.xp_candidates.specs.Chosen.{accepting, chosen, narrowed, outcome, picked}
use Rattle.xp_candidates.specs.declared.candidate.Candidate.{Candidate}
use Rattle.xp_candidates.specs.declared.pick.Pick.TheVariants.{Undefined}

filter-same : {X : Type 0} (p q : X → Bool) → ((x : X) → p x ≡ q x) → (xs : List X) → filter p xs ≡ filter q xs
filter-same p q same [] = refl
filter-same p q same (x ∷ xs) = rw (same x, filter-same p q same xs) refl

module _ (c : Contents) (funcs : List FuncRow) (opers : List OperRow) where
  takes-same : (variadic : Bool) (inputs : List TypeNo) (candidate : Candidate) → takes (with_calls c funcs opers) variadic inputs candidate ≡ takes c variadic inputs candidate
  takes-same variadic inputs candidate = ap (λ test. test && (not variadic || accepts_variadic_any c (last_of candidate.declared) (last_of inputs))) (accepts-same c funcs opers candidate.declared inputs)

  takes_as-same : (type : Option TypeNo) (inputs : List TypeNo) (candidate : Candidate) → takes_as (with_calls c funcs opers) type inputs candidate ≡ takes_as c type inputs candidate
  takes_as-same None inputs candidate = refl
  takes_as-same (Some type) inputs candidate = accepts-same c funcs opers candidate.declared (map (taken_as type) inputs)

  accepting-same : (variadic : Bool) (inputs : List TypeNo) (candidates : List Candidate) → accepting (with_calls c funcs opers) variadic inputs candidates ≡ accepting c variadic inputs candidates
  accepting-same variadic inputs candidates = filter-same (takes (with_calls c funcs opers) variadic inputs) (takes c variadic inputs) (takes-same variadic inputs) candidates

  narrowed-same : (inputs : List TypeNo) (candidates : List Candidate) → narrowed (with_calls c funcs opers) inputs candidates ≡ narrowed c inputs candidates
  narrowed-same inputs candidates =
      let type = known_type inputs in
      let declared = λ (candidate : Candidate). slots_of c candidate.declared in
      let those = of_category declared (slots_of c inputs) (most_preferred declared (slots_of c inputs) (most_exact declared (slots_of c inputs) candidates)) in
      ap (λ some. or_all_unless_one some those) (filter-same (takes_as (with_calls c funcs opers) type inputs) (takes_as c type inputs) (takes_as-same type inputs) those)

  binds-same : (inputs : List TypeNo) (candidate : Candidate) → binds (with_calls c funcs opers) inputs candidate ≡ binds c inputs candidate
  binds-same inputs candidate =
      let pairs = zip candidate.declared inputs in
      ap (λ it. is_there c candidate it (concrete_types (with_calls c funcs opers) pairs)) (bound-same c funcs opers candidate.declared candidate.result_type inputs) ∙ ap (is_there c candidate (bound c candidate.declared candidate.result_type inputs)) (concrete_types-same c funcs opers pairs)

  picked-same : (inputs : List TypeNo) (candidate : Candidate) → picked (with_calls c funcs opers) inputs candidate ≡ picked c inputs candidate
  picked-same inputs candidate = ap (λ test. cond test (Ok (record { row = candidate.row; expanded = candidate.expanded })) (Err Undefined)) (binds-same inputs candidate)

  outcome-same : (inputs : List TypeNo) (candidates : List Candidate) → outcome (with_calls c funcs opers) inputs candidates ≡ outcome c inputs candidates
  outcome-same inputs [] = refl
  outcome-same inputs (one ∷ []) = picked-same inputs one
  outcome-same inputs (first ∷ second ∷ others) = refl

  pub chosen-same : (variadic : Bool) (inputs : List TypeNo) (candidates : List Candidate) → chosen (with_calls c funcs opers) variadic inputs candidates ≡ chosen c variadic inputs candidates
  chosen-same variadic inputs candidates =
      ap (λ some. outcome (with_calls c funcs opers) inputs (narrowed (with_calls c funcs opers) (bases c inputs) some)) (accepting-same variadic inputs candidates)
      ∙ ap (outcome (with_calls c funcs opers) inputs) (narrowed-same (bases c inputs) (accepting c variadic inputs candidates))
      ∙ outcome-same inputs (narrowed c (bases c inputs) (accepting c variadic inputs candidates))
