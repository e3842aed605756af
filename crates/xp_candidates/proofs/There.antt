-- What is bound, by what `bind` answers and writes.
use Rattle.std.proofs.Common.{◌≡◌, List, Bool, true, false, cond, ap, ◌∙◌}
use Rattle.std.specs.Prelude.{zip}
use Rattle.xp_base.specs.declared.numbers.TypeNo.{TypeNo}
use Rattle.xp_catalog.specs.Contents.{Contents}
use Rattle.xp_types.specs.Readers.{unknown}
use Rattle.xp_poly.specs.Bound.{bonds, bound, concrete, concrete_types, is_indeterminate}
use Rattle.xp_poly.specs.declared.bound.Binding.TheVariants.{Concrete, Indeterminate}
use Rattle.xp_candidates.specs.Bound.{binds, is_there}
use Rattle.xp_candidates.specs.declared.candidate.Candidate.{Candidate}

there-by : (c : Contents) (candidate : Candidate) (test : Bool) (result_type other : TypeNo) (types old new : List TypeNo) (answer : Bool) → answer ≡ is_there c candidate (Concrete result_type) types → Concrete result_type ≡ cond test Indeterminate (Concrete other) → types ≡ cond test old new → answer ≡ is_there c candidate (cond test Indeterminate (Concrete other)) new
there-by c candidate true result_type other types old new answer by is written = cc
there-by c candidate false result_type other types old new answer by is written =
    let same : result_type ≡ other = cc in
    by ∙ ap (λ it. is_there c candidate (Concrete it) types) same ∙ ap (λ list. is_there c candidate (Concrete other) list) written

pub there : (c : Contents) (candidate : Candidate) (inputs declared : List TypeNo) (result_type : TypeNo) (types old : List TypeNo) (answer : Bool) → declared ≡ candidate.declared → answer ≡ is_there c candidate (Concrete result_type) types → Concrete result_type ≡ bound c declared candidate.result_type inputs → types ≡ cond (is_indeterminate c declared inputs) old (concrete_types c (zip declared inputs)) → answer ≡ binds c inputs candidate
there c candidate inputs declared result_type types old answer same by is written =
    there-by c candidate (is_indeterminate c candidate.declared inputs) result_type (concrete c (bonds c (zip candidate.declared inputs)) candidate.result_type unknown) types old (concrete_types c (zip candidate.declared inputs)) answer by
    (is ∙ ap (λ it. bound c it candidate.result_type inputs) same)
    (written ∙ ap (λ it. cond (is_indeterminate c it inputs) old (concrete_types c (zip it inputs))) same)
