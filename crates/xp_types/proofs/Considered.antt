-- The inputs that are considered, from the first known one on.
use Rattle.std.proofs.Common.{◌≡◌, ℕ, zero, suc, ◌+◌, ◌<◌, ◌≤◌, List, [], ◌∷◌, Bool, true, false, length, get_or, take, ◌-◌, cond, add-one, drop, refl, ◌∙◌, ap, arith, Some, None, position}
use Rattle.std.specs.List.{position_or_len}
use Rattle.std.proofs.lemmas.List.{take_rest}
use Rattle.xp_base.specs.declared.numbers.TypeNo.{TypeNo}
use Rattle.xp_catalog.specs.Contents.{Contents}
use Rattle.xp_types.specs.Readers.{base, category, is_known, preferred, unknown}
use Rattle.xp_types.specs.Common.{are_of, candidate_of, common_of, considered, converted}
use Rattle.xp_types.specs.declared.common_type.CommonType.TheVariants.{Mixed}
use Rattle.xp_types.proofs.Places.{place_found, place_missing, position_or_len_at, position_or_len_on}

-- a preferred candidate stays
pub candidate_stays : (c : Contents) (candidate : TypeNo) (others : List TypeNo) → preferred c candidate ≡ true → candidate_of c candidate others ≡ candidate
candidate_stays c candidate [] is = refl
candidate_stays c candidate (other ∷ others) is = rw is refl

considered_on : (c : Contents) (x : TypeNo) (xs : List TypeNo) → is_known x ≡ false → considered c (x ∷ xs) ≡ considered c xs
considered_on c x xs is = rw is refl

considered_at : (c : Contents) (x : TypeNo) (xs : List TypeNo) → is_known x ≡ true → considered c (x ∷ xs) ≡ base c x ∷ considered c xs
considered_at c x xs is = rw is refl

considered_from : (c : Contents) (inputs : List TypeNo) (i : ℕ) → position_or_len is_known inputs ≡ i → i < length inputs → considered c inputs ≡ base c (get_or inputs i unknown) ∷ considered c (drop (suc i) inputs)
considered_from c [] i at within = absurd (omega arith)
considered_from c (x ∷ xs) i at within = go (is_known x) refl i at within (λ j. considered_from c xs j)
  where
    go : (b : Bool) → is_known x ≡ b → (j : ℕ) → position_or_len is_known (x ∷ xs) ≡ j → j < length (x ∷ xs)
        → ((k : ℕ) → position_or_len is_known xs ≡ k → k < length xs → considered c xs ≡ base c (get_or xs k unknown) ∷ considered c (drop (suc k) xs))
        → considered c (x ∷ xs) ≡ base c (get_or (x ∷ xs) j unknown) ∷ considered c (drop (suc j) (x ∷ xs))
    go true is zero found under rest = considered_at c x xs is
    go true is (suc j) found under rest = absurd (omega (arith, position_or_len_at is_known x xs is, found))
    go false is zero found under rest = absurd (omega (arith, position_or_len_on is_known x xs is, found))
    go false is (suc j) found under rest = considered_on c x xs is ∙ rest j (omega (arith, position_or_len_on is_known x xs is, found)) (omega arith)

-- the first known input stands first
pub considered_first : (c : Contents) (inputs : List TypeNo) (i : ℕ) → position is_known inputs ≡ Some i → considered c inputs ≡ base c (get_or inputs i unknown) ∷ considered c (drop (suc i) inputs)
considered_first c inputs i at = let found = place_found is_known inputs i at in considered_from c inputs i found.0 found.1

considered_by : (c : Contents) (inputs : List TypeNo) → length inputs ≤ position_or_len is_known inputs → considered c inputs ≡ []
considered_by c [] past = refl
considered_by c (x ∷ xs) past = go (is_known x) refl (considered_by c xs)
  where
    go : (b : Bool) → is_known x ≡ b → (length xs ≤ position_or_len is_known xs → considered c xs ≡ []) → considered c (x ∷ xs) ≡ []
    go true is rest = absurd (omega (arith, position_or_len_at is_known x xs is, past))
    go false is rest = considered_on c x xs is ∙ rest (omega (arith, position_or_len_on is_known x xs is, past))

-- without one there are none
pub considered_none : (c : Contents) (inputs : List TypeNo) → position is_known inputs ≡ None → considered c inputs ≡ []
considered_none c inputs at = considered_by c inputs (place_missing is_known inputs at)

-- the slice behind a place
behind : (xs : List TypeNo) (i : ℕ) → take (length xs - (i + 1)) (drop (i + 1) xs) ≡ drop (suc i) xs
behind xs i = take_rest xs (i + 1) ∙ ap (λ n. drop n xs) (add-one i)

-- what the steps come to, by the first known input and the slice behind it
pub common_of_first : (c : Contents) (inputs : List TypeNo) (i : ℕ) (first : TypeNo) (letter : ℕ) (others : List TypeNo) (same : Bool) → position is_known inputs ≡ Some i
    → others ≡ take (length inputs - (i + 1)) (drop (i + 1) inputs) → first ≡ base c (get_or inputs i unknown) → letter ≡ category c first → same ≡ are_of c letter (considered c others)
    → common_of c inputs (considered c inputs) ≡ cond same (converted c inputs (candidate_of c first (considered c others))) Mixed
common_of_first c inputs i first letter others same at rest is_first is_letter is_same =
    let tail : others ≡ drop (suc i) inputs = rest ∙ behind inputs i in
    rw (considered_first c inputs i at, is_same, is_letter, is_first, tail) refl
