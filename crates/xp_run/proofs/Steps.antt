-- What is written for a script: what its first statement says, and then the rest.
use Rattle.std.proofs.Common.{◌≡◌, ℕ, zero, suc, ◌+◌, ◌≤◌, ◌<◌, List, [], ◌++◌, length, Option, Some, None, Bool, true, false, ◌&&◌, refl, sym, ◌∙◌, ap, arith}
use Rattle.std.specs.Prelude.{nat_lt}
use Rattle.std.specs.Option.{option_map}
use Rattle.std.proofs.lemmas.Bool.Decides.{nat_tests}
use Rattle.xp_catalog.specs.Contents.{Contents}
use Rattle.xp_value.specs.declared.value.Value.{Value}
use Rattle.xp_run.specs.Answer.{Answer}
use Rattle.xp_run.specs.Report.{all_ok, blocks_from, steps_in, text_of}
use Rattle.xp_run.specs.Script.{answers_from, with_first}
use Rattle.xp_run.specs.inner.Turns.{is_fine_turn, number_after, text_after}
use Rattle.xp_run.specs.inner.Analyses.{answer_of}
use Rattle.xp_run.specs.declared.analysis.Analysis.{Analysis}
use Rattle.xp_run.specs.declared.analysis.Analysis.TheVariants.{Refused, Described, Evaluated}
use Rattle.xp_run.specs.declared.inputs.Inputs.{Inputs}

-- no statement begins at the end
pub answers_end : (n : ℕ) (inputs : Inputs) (at : ℕ) → length inputs.script ≤ at → answers_from n inputs at ≡ []
answers_end zero inputs at h = refl
answers_end (suc n) inputs at h = let e : nat_lt at (length inputs.script) ≡ false = grind (arith, nat_tests) in rw e refl

pub and_true : (b : Bool) → (b && true) ≡ b
and_true true = refl
and_true false = refl

text_first : (c : Contents) (k : ℕ) (first : Option Answer) (later : List Answer) → text_of (blocks_from c k (with_first first later)) ≡ text_after c k first ++ text_of (blocks_from c (number_after k first) later)
text_first c k None later = refl
text_first c k (Some answer) later = refl

ok_first : (c : Contents) (k : ℕ) (first : Option Answer) (later : List Answer) → all_ok (blocks_from c k (with_first first later)) ≡ (is_fine_turn first && all_ok (blocks_from c (number_after k first) later))
ok_first c k None later = refl
ok_first c k (Some answer) later = refl

-- no statement that comes today takes a machine step
steps_first : (c : Contents) (k : ℕ) (rows : List (List Value)) (first : Option Analysis) (later : List Answer) → steps_in (blocks_from c k (with_first (option_map (answer_of rows) first) later)) ≡ steps_in (blocks_from c (number_after k (option_map (answer_of rows) first)) later)
steps_first c k rows None later = refl
steps_first c k rows (Some (Refused code at)) later = refl
steps_first c k rows (Some (Described typed)) later = refl
steps_first c k rows (Some (Evaluated typed)) later = refl

pub number_after-le : (k : ℕ) (first : Option Answer) → number_after k first ≤ k + 1
number_after-le k None = omega arith
number_after-le k (Some answer) = omega arith

-- so far, the statement in front, and the others: all of them
pub all_ok-later : (before after front later rest total : Bool) → after ≡ (before && front) → rest ≡ (front && later) → (before && rest) ≡ total → (after && later) ≡ total
all_ok-later true after front later rest total e f t = rw e (sym f ∙ t)
all_ok-later false after front later rest total e f t = rw e t

pub some_less : (n : ℕ) → 0 < n → (m : ℕ) × (n ≡ suc m)
some_less zero h = absurd (omega arith)
some_less (suc m) h = (m, refl)

-- the answers from a place on are that of the next statement and those behind it
turn : {T : Type 0} (f : List Answer → T) (inputs : Inputs) (n m at next : ℕ) (first : Option Answer) → n ≡ suc m → answers_from (suc m) inputs at ≡ with_first first (answers_from m inputs next)
    → f (answers_from n inputs at) ≡ f (with_first first (answers_from m inputs next))
turn f inputs n m at next first e t = ap (λ z. f (answers_from z inputs at)) e ∙ ap f t

pub text_turn : (inputs : Inputs) (k n m at next : ℕ) (first : Option Answer) → n ≡ suc m → answers_from (suc m) inputs at ≡ with_first first (answers_from m inputs next)
    → text_of (blocks_from inputs.catalog k (answers_from n inputs at)) ≡ text_after inputs.catalog k first ++ text_of (blocks_from inputs.catalog (number_after k first) (answers_from m inputs next))
text_turn inputs k n m at next first e t = turn (λ a. text_of (blocks_from inputs.catalog k a)) inputs n m at next first e t ∙ text_first inputs.catalog k first (answers_from m inputs next)

pub ok_turn : (inputs : Inputs) (k n m at next : ℕ) (first : Option Answer) → n ≡ suc m → answers_from (suc m) inputs at ≡ with_first first (answers_from m inputs next)
    → all_ok (blocks_from inputs.catalog k (answers_from n inputs at)) ≡ (is_fine_turn first && all_ok (blocks_from inputs.catalog (number_after k first) (answers_from m inputs next)))
ok_turn inputs k n m at next first e t = turn (λ a. all_ok (blocks_from inputs.catalog k a)) inputs n m at next first e t ∙ ok_first inputs.catalog k first (answers_from m inputs next)

pub steps_turn : (inputs : Inputs) (k n m at next : ℕ) (first : Option Analysis) → n ≡ suc m → answers_from (suc m) inputs at ≡ with_first (option_map (answer_of inputs.rows) first) (answers_from m inputs next)
    → steps_in (blocks_from inputs.catalog k (answers_from n inputs at)) ≡ steps_in (blocks_from inputs.catalog (number_after k (option_map (answer_of inputs.rows) first)) (answers_from m inputs next))
steps_turn inputs k n m at next first e t = turn (λ a. steps_in (blocks_from inputs.catalog k a)) inputs n m at next (option_map (answer_of inputs.rows) first) e t ∙ steps_first inputs.catalog k inputs.rows first (answers_from m inputs next)
