-- What the steps leave: some of the candidates that there were, and at least one of them.
use Rattle.std.proofs.Common.{◌≡◌, ℕ, suc, ◌+◌, ◌<◌, List, [], ◌∷◌, Bool, true, false, cond, max, length, get_or, refl, ap, arith, ◌==◌, ◌≤◌, eq-eqb}
use Rattle.std.specs.Prelude.{All}
use Rattle.std.specs.List.{filter}
use Rattle.std.proofs.lemmas.List.Elements.{All-cons, All-filter}
use Rattle.std.proofs.lemmas.Bool.Decides.{nat_tests}
use Rattle.xp_overload.specs.Places.{is_marked, kept, kept_from}
use Rattle.xp_overload.specs.Matches.{greatest, matches, most_exact, most_preferred, with_most}
use Rattle.xp_overload.specs.declared.matches.Match.TheVariants.{Exact, Preferred}
use Rattle.xp_overload.specs.Categories.{of_category, or_all, survives}
use Rattle.xp_overload.specs.Choosing.{as_known_type, choice_of, left, or_all_unless_one}
use Rattle.xp_overload.specs.declared.choice.Choice.TheVariants.{Several}
use Rattle.xp_overload.specs.declared.slots.InSlot.{InSlot}

All-or_all : {A : Type 0} (P : A → Type 0) (those all : List A) → All P those → All P all → All P (or_all those all)
All-or_all P [] all in_those in_all = in_all
All-or_all P (first ∷ others) all in_those in_all = in_those

All-unless_one : {A : Type 0} (P : A → Type 0) (those all : List A) → All P those → All P all → All P (or_all_unless_one those all)
All-unless_one P [] all in_those in_all = in_all
All-unless_one P (one ∷ []) all in_those in_all = in_those
All-unless_one P (first ∷ second ∷ others) all in_those in_all = in_all

-- what holds of each candidate holds of each that the steps 3.c to 3.e leave
pub All-of_category : {A : Type 0} (P : A → Type 0) (declared : A → List InSlot) (inputs : List InSlot) (candidates : List A) → All P candidates → All P (of_category declared inputs (most_preferred declared inputs (most_exact declared inputs candidates)))
All-of_category P declared inputs candidates each =
    let exact : All P (most_exact declared inputs candidates) = All-filter _ P candidates each in
    let preferred : All P (most_preferred declared inputs (most_exact declared inputs candidates)) = All-filter _ P (most_exact declared inputs candidates) exact in
    All-or_all P _ _ (All-filter _ P _ preferred) preferred

-- what holds of each candidate holds of each that is left
pub All-left : {A : Type 0} (P : A → Type 0) (declared : A → List InSlot) (passes : A → Bool) (inputs : List InSlot) (candidates : List A) → All P candidates → All P (left declared passes inputs candidates)
All-left P declared passes inputs candidates each =
    let of = All-of_category P declared inputs candidates each in
    All-unless_one P _ _ (All-filter _ P _ of) of

-- each place from i on that a mask keeps is marked in it
All-kept_from : (whole marks : List Bool) (i : ℕ) → ((k j : ℕ) → j ≡ i + k → k < length marks → get_or whole j false ≡ get_or marks k false) → All (λ place. get_or whole place false ≡ true) (kept_from i marks)
All-kept_from whole [] i same = λ k d within. absurd (omega arith)
All-kept_from whole (true ∷ marks) i same = All-cons (λ place. get_or whole place false ≡ true) i (kept_from (i + 1) marks) (same 0 i (omega arith) (omega arith)) (All-kept_from whole marks (i + 1) (λ k j at within. same (suc k) j (omega arith) (omega arith)))
All-kept_from whole (false ∷ marks) i same = All-kept_from whole marks (i + 1) (λ k j at within. same (suc k) j (omega arith) (omega arith))

pub All-kept : (marks : List Bool) → All (λ place. is_marked marks place ≡ true) (kept marks)
All-kept marks = All-kept_from marks marks 0 (λ k j at within. let here : j ≡ k = omega arith in ap (λ n. get_or marks n false) here)

filled-step : {A : Type 0} (test : Bool) (one : A) (rest : List A) → (test ≡ false → 0 < length rest) → 0 < length (cond test (one ∷ rest) rest)
filled-step true one rest otherwise = omega arith
filled-step false one rest otherwise = otherwise refl

-- a candidate has the greatest count
filled-with : {A : Type 0} (count : A → ℕ) (most : ℕ) (one : A) (others : List A) → greatest count (one ∷ others) ≡ most → 0 < length (filter (λ it. count it == most) (one ∷ others))
filled-with count most one [] is = let same : count one ≡ most = omega (arith, is) in rw (eq-eqb (count one) most same) (omega arith)
filled-with count most one (next ∷ others) is = filled-step (count one == most) one _ (λ differs. filled-with count most next others (grind (arith, nat_tests)))

filled-with_most : {A : Type 0} (count : A → ℕ) (candidates : List A) → 0 < length candidates → 0 < length (with_most count candidates)
filled-with_most count [] some = absurd (omega arith)
filled-with_most count (one ∷ others) some = filled-with count (greatest count (one ∷ others)) one others refl

filled-or_all : {A : Type 0} (those all : List A) → 0 < length all → 0 < length (or_all those all)
filled-or_all [] all some = some
filled-or_all (first ∷ others) all some = omega arith

filled-unless_one : {A : Type 0} (those all : List A) → 0 < length all → 0 < length (or_all_unless_one those all)
filled-unless_one [] all some = some
filled-unless_one (one ∷ []) all some = omega arith
filled-unless_one (first ∷ second ∷ others) all some = some

pub filled-left : {A : Type 0} (declared : A → List InSlot) (passes : A → Bool) (inputs : List InSlot) (candidates : List A) → 0 < length candidates → 0 < length (left declared passes inputs candidates)
filled-left declared passes inputs candidates some =
    let exact : 0 < length (most_exact declared inputs candidates) = filled-with_most _ candidates some in
    let preferred : 0 < length (most_preferred declared inputs (most_exact declared inputs candidates)) = filled-with_most _ (most_exact declared inputs candidates) exact in
    let those = most_preferred declared inputs (most_exact declared inputs candidates) in
    let of : 0 < length (of_category declared inputs those) = filled-or_all (filter (survives declared inputs those) those) those preferred in
    filled-unless_one (filter passes (of_category declared inputs those)) (of_category declared inputs those) of

pub several-left : (places : List ℕ) → 0 < length places → choice_of places ≡ Several → 2 ≤ length places
several-left [] some several = absurd (omega arith)
several-left (place ∷ []) some several = cc
several-left (first ∷ second ∷ places) some several = omega arith

pub one-with_most : {A : Type 0} (count : A → ℕ) (one : A) → with_most count (one ∷ []) ≡ one ∷ []
one-with_most count one = let same : (count one == max (count one) 0) ≡ true = eq-eqb (count one) (max (count one) 0) (omega arith) in rw same refl

one-or_all : {A : Type 0} (test : Bool) (one : A) → or_all (cond test (one ∷ []) []) (one ∷ []) ≡ one ∷ []
one-or_all true one = refl
one-or_all false one = refl

pub one-of_category : {A : Type 0} (declared : A → List InSlot) (inputs : List InSlot) (one : A) → of_category declared inputs (one ∷ []) ≡ one ∷ []
one-of_category declared inputs one = one-or_all (survives declared inputs (one ∷ []) one) one

one-unless_one : {A : Type 0} (test : Bool) (one : A) → or_all_unless_one (cond test (one ∷ []) []) (one ∷ []) ≡ one ∷ []
one-unless_one true one = refl
one-unless_one false one = refl

pub one-as_known_type : {A : Type 0} (passes : A → Bool) (one : A) → as_known_type passes (one ∷ []) ≡ one ∷ []
one-as_known_type passes one = one-unless_one (passes one) one

-- a list of one is left as it is
pub one-left : {A : Type 0} (declared : A → List InSlot) (passes : A → Bool) (inputs : List InSlot) (one : A) → left declared passes inputs (one ∷ []) ≡ one ∷ []
one-left declared passes inputs one =
    rw (one-with_most (λ it. matches Exact inputs (declared it)) one) (
    rw (one-with_most (λ it. matches Preferred inputs (declared it)) one) (
    rw (one-of_category declared inputs one) (one-as_known_type passes one)))
