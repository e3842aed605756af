-- Rows by their places in a list that others stand behind, and first places.
use Rattle.std.proofs.Common.{◌≡◌, ℕ, zero, suc, ◌+◌, ◌<◌, ◌≤◌, List, [], ◌∷◌, ◌++◌, Bool, true, false, cond, eqb, ltb, length, length-append, get_or, refl, sym, ◌∙◌, ap, arith, Option, Some, None, slice_get, position}
use Rattle.std.specs.List.{position_or_len}
use Rattle.std.proofs.lemmas.List.Folds.{position_or_len_push}
use Rattle.std.proofs.lemmas.List.Quantifiers.{position-Some}
use Rattle.std.proofs.lemmas.Option.{get_or_from_slice_get, slice_get-get_or, slice_get_within}

pub slice_get_old : {X : Type 0} (xs ys : List X) (k : ℕ) → k < length xs → slice_get (xs ++ ys) k ≡ slice_get xs k
slice_get_old [] ys k within = absurd (omega arith)
slice_get_old (x ∷ xs) ys zero within = refl
slice_get_old (x ∷ xs) ys (suc k) within = slice_get_old xs ys k (omega arith)

pub slice_get_new : {X : Type 0} (xs ys : List X) (k j : ℕ) → k ≡ length xs + j → slice_get (xs ++ ys) k ≡ slice_get ys j
slice_get_new [] ys k j is = let at : k ≡ j = omega arith in ap (slice_get ys) at
slice_get_new (x ∷ xs) ys zero j is = absurd (omega arith)
slice_get_new (x ∷ xs) ys (suc k) j is = slice_get_new xs ys k j (omega arith)

pub position_or_len_at : {X : Type 0} (test : X → Bool) (x : X) (xs : List X) → test x ≡ true → position_or_len test (x ∷ xs) ≡ 0
position_or_len_at test x xs passes = rw passes refl

pub position_or_len_on : {X : Type 0} (test : X → Bool) (x : X) (xs : List X) → test x ≡ false → position_or_len test (x ∷ xs) ≡ 1 + position_or_len test xs
position_or_len_on test x xs fails = rw fails refl

pub position_by : {X : Type 0} (test : X → Bool) (xs : List X) (n : ℕ) → position_or_len test xs ≡ n → position test xs ≡ cond (ltb n (length xs)) (Some n) None
position_by test xs n is = rw is refl

position_none : {X : Type 0} (test : X → Bool) (xs : List X) → ((k : ℕ) (y : X) → slice_get xs k ≡ Some y → test y ≡ true → ⊥) → position_or_len test xs ≡ length xs
position_none test [] none = refl
position_none test (x ∷ xs) none =
    let rest : position_or_len test xs ≡ length xs = position_none test xs (λ k y at passes. none (suc k) y at passes) in
    go (test x) refl rest
  where
    go : (b : Bool) → test x ≡ b → position_or_len test xs ≡ length xs → position_or_len test (x ∷ xs) ≡ length (x ∷ xs)
    go true is rest = absurd (none 0 x refl is)
    go false is rest = position_or_len_on test x xs is ∙ ap (λ n. 1 + n) rest ∙ omega arith

position_at : {X : Type 0} (test : X → Bool) (xs : List X) (i : ℕ) (y : X) → slice_get xs i ≡ Some y → test y ≡ true → ((k : ℕ) (z : X) → k < i → slice_get xs k ≡ Some z → test z ≡ true → ⊥) → position_or_len test xs ≡ i
position_at test [] i y at passes before = absurd (grind (arith, at))
position_at test (x ∷ xs) zero y at passes before = position_or_len_at test x xs (let same : x ≡ y = grind (arith, at) in rw same passes)
position_at test (x ∷ xs) (suc i) y at passes before =
    let rest : position_or_len test xs ≡ i = position_at test xs i y at passes (λ k z under found holds. before (suc k) z (omega arith) found holds) in
    go (test x) refl rest
  where
    go : (b : Bool) → test x ≡ b → position_or_len test xs ≡ i → position_or_len test (x ∷ xs) ≡ suc i
    go true is rest = absurd (before 0 x (omega arith) refl is)
    go false is rest = position_or_len_on test x xs is ∙ ap (λ n. 1 + n) rest ∙ omega arith

-- the one place at which the test passes is the first
pub only_place : {X : Type 0} (test : X → Bool) (xs : List X) (i : ℕ) (x : X) → slice_get xs i ≡ Some x → test x ≡ true → ((k : ℕ) (y : X) → slice_get xs k ≡ Some y → test y ≡ true → k ≡ i) → position test xs ≡ Some i
only_place test xs i x at passes only =
    let here : position_or_len test xs ≡ i = position_at test xs i x at passes (λ k z under found holds. let same : k ≡ i = only k z found holds in omega arith) in
    let within : i < length xs = slice_get_within xs i x at in
    let lt : ltb i (length xs) ≡ true = grind arith in
    position_by test xs i here ∙ rw lt refl

pub no_place : {X : Type 0} (test : X → Bool) (xs : List X) → ((k : ℕ) (y : X) → slice_get xs k ≡ Some y → test y ≡ true → ⊥) → position test xs ≡ None
no_place test xs none =
    let past : ltb (length xs) (length xs) ≡ false = grind arith in
    position_by test xs (length xs) (position_none test xs none) ∙ rw past refl

-- the same by what stands at each place
pub first_at : {X : Type 0} (test : X → Bool) (xs : List X) (i : ℕ) (d : X) → i < length xs → test (get_or xs i d) ≡ true → ((k : ℕ) → k < i → test (get_or xs k d) ≡ false) → position test xs ≡ Some i
first_at test xs i d within passes before =
    let here : position_or_len test xs ≡ i = position_at test xs i (get_or xs i d) (slice_get-get_or xs i d within) passes (λ k z under found holds.
    let same : get_or xs k d ≡ z = get_or_from_slice_get xs k z d found in
    let fails : test z ≡ false = sym (ap test same) ∙ before k under in
    grind (arith, holds, fails)) in
    let lt : ltb i (length xs) ≡ true = grind arith in
    position_by test xs i here ∙ rw lt refl

pub none_at : {X : Type 0} (test : X → Bool) (xs : List X) (d : X) → ((k : ℕ) → k < length xs → test (get_or xs k d) ≡ false) → position test xs ≡ None
none_at test xs d none = no_place test xs (λ k z found holds.
    let same : get_or xs k d ≡ z = get_or_from_slice_get xs k z d found in
    let fails : test z ≡ false = sym (ap test same) ∙ none k (slice_get_within xs k z found) in
    grind (arith, holds, fails))

-- a first place, and what stands before it
pub place_found : {X : Type 0} (test : X → Bool) (xs : List X) (i : ℕ) → position test xs ≡ Some i → (position_or_len test xs ≡ i) × (i < length xs)
place_found test xs i at = grind arith

pub place_missing : {X : Type 0} (test : X → Bool) (xs : List X) → position test xs ≡ None → length xs ≤ position_or_len test xs
place_missing test xs at = grind arith

-- one more that fails changes nothing
pub position_push : {X : Type 0} (test : X → Bool) (xs : List X) (y : X) → test y ≡ false → position test (xs ++ y ∷ []) ≡ position test xs
position_push test xs y fails = go (position test xs) refl
  where
    pushed : position_or_len test (xs ++ y ∷ []) ≡ cond (eqb (position_or_len test xs) (length xs)) (length xs + 1) (position_or_len test xs)
    pushed = rw (position_or_len_push test xs y, fails) refl

    long : length (xs ++ y ∷ []) ≡ length xs + 1
    long = length-append xs (y ∷ [])

    past : (b : Bool) → eqb (position_or_len test xs) (length xs) ≡ b → length xs ≤ position_or_len test xs → length xs + 1 ≤ position_or_len test (xs ++ y ∷ [])
    past true is none = let at : position_or_len test (xs ++ y ∷ []) ≡ length xs + 1 = pushed ∙ rw is refl in omega (arith, at)
    past false is none = let at : position_or_len test (xs ++ y ∷ []) ≡ position_or_len test xs = pushed ∙ rw is refl in grind (arith, at, is, none)

    go : (o : Option ℕ) → position test xs ≡ o → position test (xs ++ y ∷ []) ≡ position test xs
    go None at =
        let beyond : length xs + 1 ≤ position_or_len test (xs ++ y ∷ []) = past (eqb (position_or_len test xs) (length xs)) refl (place_missing test xs at) in
        let lt : ltb (position_or_len test (xs ++ y ∷ [])) (length (xs ++ y ∷ [])) ≡ false = grind (arith, beyond, long) in
        rw lt (sym at)
    go (Some i) at =
        let found = place_found test xs i at in
        let ne : eqb (position_or_len test xs) (length xs) ≡ false = grind (arith, found.0, found.1) in
        let here : position_or_len test (xs ++ y ∷ []) ≡ i = pushed ∙ rw ne found.0 in
        let lt : ltb i (length (xs ++ y ∷ [])) ≡ true = grind (arith, found.1, long) in
        position_by test (xs ++ y ∷ []) i here ∙ rw lt (sym at)

-- the test passes at the place that is found
pub place_holds : {X : Type 0} (test : X → Bool) (xs : List X) (i : ℕ) → position test xs ≡ Some i → (x : X) × (slice_get xs i ≡ Some x) × (test x ≡ true)
place_holds test [] i at = cc
place_holds test (x ∷ xs) i at =
    let found = position-Some test (x ∷ xs) i x at in
    (get_or (x ∷ xs) i x, slice_get-get_or (x ∷ xs) i x found.0, found.1)
