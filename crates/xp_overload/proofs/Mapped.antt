-- The steps over a list and over what its elements stand for leave the same.
use Rattle.std.proofs.Common.{◌≡◌, ℕ, List, [], ◌∷◌, Bool, true, false, ◌||◌, ◌==◌, cond, get_or, refl, ap, ◌∙◌}
use Rattle.std.specs.Prelude.{All, map}
use Rattle.std.specs.List.{enumerate_from, filter, list_all, zip}
use Rattle.std.proofs.lemmas.List.Elements.{All-head, All-tail}
use Rattle.xp_overload.specs.Matches.{greatest, is_known, matches, most_exact, most_preferred, with_most}
use Rattle.xp_overload.specs.Categories.{column, is_taken, of_category, or_all, survives}
use Rattle.xp_overload.specs.Choosing.{as_known_type, left, or_all_unless_one}
use Rattle.xp_overload.specs.declared.matches.Match.{Match}
use Rattle.xp_overload.specs.declared.matches.Match.TheVariants.{Exact, Preferred}
use Rattle.xp_overload.specs.declared.slots.InSlot.{InSlot}
use Rattle.xp_overload.proofs.Left.{All-of_category}

list_all-same : {X : Type 0} (p q : X → Bool) → ((x : X) → p x ≡ q x) → (xs : List X) → list_all p xs ≡ list_all q xs
list_all-same p q same [] = refl
list_all-same p q same (x ∷ xs) = rw (same x, list_all-same p q same xs) refl

module _ {A B : Type 0} (f : A → B) where
  map-cond : (test : Bool) (a : A) (rest : List A) → map f (cond test (a ∷ rest) rest) ≡ cond test (f a ∷ map f rest) (map f rest)
  map-cond true a rest = refl
  map-cond false a rest = refl

  pub filter-mapped : (p : A → Bool) (q : B → Bool) (xs : List A) → All (λ a. p a ≡ q (f a)) xs → map f (filter p xs) ≡ filter q (map f xs)
  filter-mapped p q [] each = refl
  filter-mapped p q (x ∷ xs) each =
      map-cond (p x) x (filter p xs) ∙ rw (All-head (λ a. p a ≡ q (f a)) x xs each, filter-mapped p q xs (All-tail (λ a. p a ≡ q (f a)) x xs each)) refl

  greatest-mapped : (count : A → ℕ) (other : B → ℕ) → ((a : A) → count a ≡ other (f a)) → (xs : List A) → greatest count xs ≡ greatest other (map f xs)
  greatest-mapped count other same [] = refl
  greatest-mapped count other same (x ∷ xs) = rw (same x, greatest-mapped count other same xs) refl

  most-mapped : (count : A → ℕ) (other : B → ℕ) → ((a : A) → count a ≡ other (f a)) → (xs : List A) → map f (with_most count xs) ≡ with_most other (map f xs)
  most-mapped count other same xs =
      filter-mapped (λ a. count a == greatest count xs) (λ b. other b == greatest other (map f xs)) xs (λ k d within. rw (same (get_or xs k d), greatest-mapped count other same xs) refl)

  or_all-mapped : (those all : List A) → map f (or_all those all) ≡ or_all (map f those) (map f all)
  or_all-mapped [] all = refl
  or_all-mapped (first ∷ others) all = refl

  unless_one-mapped : (those all : List A) → map f (or_all_unless_one those all) ≡ or_all_unless_one (map f those) (map f all)
  unless_one-mapped [] all = refl
  unless_one-mapped (one ∷ []) all = refl
  unless_one-mapped (first ∷ second ∷ others) all = refl

  module _ (declared : A → List InSlot) (other : B → List InSlot) (same : (a : A) → declared a ≡ other (f a)) (inputs : List InSlot) where
    matches-mapped : (kind : Match) (xs : List A) → map f (with_most (λ a. matches kind inputs (declared a)) xs) ≡ with_most (λ b. matches kind inputs (other b)) (map f xs)
    matches-mapped kind = most-mapped (λ a. matches kind inputs (declared a)) (λ b. matches kind inputs (other b)) (λ a. ap (matches kind inputs) (same a))

    column-mapped : (position : ℕ) (xs : List A) → column declared position xs ≡ column other position (map f xs)
    column-mapped position [] = refl
    column-mapped position (x ∷ xs) = rw (same x, column-mapped position xs) refl

    survives-mapped : (xs : List A) (a : A) → survives declared inputs xs a ≡ survives other inputs (map f xs) (f a)
    survives-mapped xs a =
        list_all-same (λ pair. is_known pair.0.1 || is_taken (column declared pair.0.0 xs) pair.1) (λ pair. is_known pair.0.1 || is_taken (column other pair.0.0 (map f xs)) pair.1) (λ pair. ap (λ slots. is_known pair.0.1 || is_taken slots pair.1) (column-mapped pair.0.0 xs)) (zip (enumerate_from 0 inputs) (declared a))
        ∙ ap (λ slots. list_all (λ pair. is_known pair.0.1 || is_taken (column other pair.0.0 (map f xs)) pair.1) (zip (enumerate_from 0 inputs) slots)) (same a)

    category-mapped : (xs : List A) → map f (of_category declared inputs xs) ≡ of_category other inputs (map f xs)
    category-mapped xs =
        or_all-mapped (filter (survives declared inputs xs) xs) xs
        ∙ ap (λ those. or_all those (map f xs)) (filter-mapped (survives declared inputs xs) (survives other inputs (map f xs)) xs (λ k d within. survives-mapped xs (get_or xs k d)))

    steps-mapped : (xs : List A) → map f (of_category declared inputs (most_preferred declared inputs (most_exact declared inputs xs))) ≡ of_category other inputs (most_preferred other inputs (most_exact other inputs (map f xs)))
    steps-mapped xs =
        category-mapped (most_preferred declared inputs (most_exact declared inputs xs))
        ∙ ap (of_category other inputs) (matches-mapped Preferred (most_exact declared inputs xs) ∙ ap (most_preferred other inputs) (matches-mapped Exact xs))

    -- where the elements declare what those that they stand for declare, and pass the last test where these do
    pub left-mapped : (passes : A → Bool) (pass : B → Bool) (xs : List A) → All (λ a. passes a ≡ pass (f a)) xs → map f (left declared passes inputs xs) ≡ left other pass inputs (map f xs)
    left-mapped passes pass xs each =
        let of = of_category declared inputs (most_preferred declared inputs (most_exact declared inputs xs)) in
        let those : map f (filter passes of) ≡ filter pass (map f of) = filter-mapped passes pass of (All-of_category (λ a. passes a ≡ pass (f a)) declared inputs xs each) in
        unless_one-mapped (filter passes of) of ∙ ap (λ some. or_all_unless_one some (map f of)) those ∙ ap (as_known_type pass) (steps-mapped xs)
