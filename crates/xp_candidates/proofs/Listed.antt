-- Lists of candidates that a loop over rows makes.
use Rattle.std.proofs.Common.{◌≡◌, ℕ, zero, suc, ◌+◌, List, [], ◌∷◌, ◌++◌, drop, refl, subst, arith, append_assoc, Bool, true, ap, ◌∙◌, Option, Some, None}
use Rattle.std.specs.Prelude.{option_to_list}
use Rattle.std.specs.List.{All, list_any, slice_get}
use Rattle.std.specs.Option.{ForSome}
use Rattle.std.proofs.lemmas.Bool.{or_left, or_right}
use Rattle.std.proofs.lemmas.List.Elements.{All-append, All-cons, All-nil}
use Rattle.std.proofs.lemmas.List.Folds.{list_any-append}
use Rattle.xp_base.proofs.Lists.{rest_at}
use Rattle.xp_candidates.specs.Forms.{forms_from}
use Rattle.xp_candidates.specs.declared.candidate.Candidate.{Candidate}

-- one row more
pub forms-more : {Row : Type 0} (forms : ℕ → Row → List Candidate) (rows : List Row) (place : ℕ) (row : Row) (before after all : List Candidate) → slice_get rows place ≡ Some row → after ≡ before ++ forms place row → before ++ forms_from forms place (drop place rows) ≡ all → after ++ forms_from forms (place + 1) (drop (place + 1) rows) ≡ all
forms-more forms rows place row before after all at is so_far =
    let now : before ++ (forms place row ++ forms_from forms (place + 1) (drop (place + 1) rows)) ≡ all = subst (λ rest. before ++ forms_from forms place rest ≡ all) (rest_at rows place row at) so_far in
    rw (is, append_assoc) now

All-option : (P : Candidate → Type 0) (form : Option Candidate) → ForSome form P → All P (option_to_list form)
All-option P None some = All-nil P
All-option P (Some candidate) some = All-cons P candidate [] (some candidate refl) (All-nil P)

-- what holds of each holds of each after one more, if there is one
pub All-pushed : (P : Candidate → Type 0) (before after : List Candidate) (form : Option Candidate) → after ≡ before ++ option_to_list form → All P before → ForSome form P → All P after
All-pushed P before after form is each some = rw is (All-append P before (option_to_list form) each (All-option P form some))

-- a row that gives none, behind the others
pub forms-unpushed : {Row : Type 0} (forms : ℕ → Row → List Candidate) (place : ℕ) (rows : List Row) (row : Row) → ((k : ℕ) → forms k row ≡ []) → forms_from forms place (rows ++ row ∷ []) ≡ forms_from forms place rows
forms-unpushed forms place [] row none = rw (none place) refl
forms-unpushed forms place (first ∷ rows) row none = ap (λ rest. forms place first ++ rest) (forms-unpushed forms (place + 1) rows row none)

-- what a row gives is among what all give
pub any-formed : {Row : Type 0} (test : Candidate → Bool) (forms : ℕ → Row → List Candidate) (from : ℕ) (rows : List Row) (place : ℕ) (row : Row) → slice_get rows place ≡ Some row → list_any test (forms (from + place) row) ≡ true → list_any test (forms_from forms from rows) ≡ true
any-formed test forms from [] place row at passes = cc
any-formed test forms from (first ∷ rows) zero row at passes =
    let same : first ≡ row = cc in
    let here : list_any test (forms from first) ≡ true = rw same (subst (λ k. list_any test (forms k row) ≡ true) (omega arith) passes) in
    list_any-append test (forms from first) (forms_from forms (from + 1) rows) ∙ or_left (list_any test (forms from first)) _ here
any-formed test forms from (first ∷ rows) (suc place) row at passes =
    let later : list_any test (forms (from + 1 + place) row) ≡ true = subst (λ k. list_any test (forms k row) ≡ true) (omega arith) passes in
    list_any-append test (forms from first) (forms_from forms (from + 1) rows) ∙ or_right (list_any test (forms from first)) _ (any-formed test forms (from + 1) rows place row at later)
