-- Copies one behind the other.
use Rattle.std.proofs.Common.{◌≡◌, ℕ, zero, suc, ◌+◌, ◌*◌, ◌<◌, ◌≤◌, List, [], ◌∷◌, ◌++◌, length, refl, sym, ◌∙◌, ap, add-one, arith, append_assoc, mul_comm}
use Rattle.std.proofs.lemmas.List.{length-append, append-nil, nil_from_length}
use Rattle.xp_text.specs.Made.{repeated}

pub length-repeated : (n : ℕ) (xs : List ℕ) → length (repeated n xs) ≡ n * length xs
length-repeated zero xs = grind arith
length-repeated (suc n) xs = length-append xs (repeated n xs) ∙ grind (arith, length-repeated n xs)

-- one copy more, behind the others
pub repeated_more : (n : ℕ) (xs : List ℕ) → repeated n xs ++ xs ≡ repeated (suc n) xs
repeated_more zero xs = sym (append-nil xs)
repeated_more (suc n) xs = append_assoc xs (repeated n xs) xs ∙ ap (λ l. xs ++ l) (repeated_more n xs)

pub repeated_nothing : (n : ℕ) → repeated n [] ≡ []
repeated_nothing zero = refl
repeated_nothing (suc n) = repeated_nothing n

pub repeated_one_more : (n : ℕ) (xs : List ℕ) → repeated (n + 1) xs ≡ repeated n xs ++ xs
repeated_one_more n xs = ap (λ k. repeated k xs) (add-one n) ∙ sym (repeated_more n xs)

-- as a product in the order of the code
pub length_copies : (n : ℕ) (xs : List ℕ) → length (repeated n xs) ≡ length xs * n
length_copies n xs = length-repeated n xs ∙ mul_comm n (length xs)

pub copies_of_nothing : (n : ℕ) (xs : List ℕ) → length xs ≡ 0 → repeated n xs ≡ []
copies_of_nothing n xs e = ap (λ l. repeated n l) (nil_from_length xs e) ∙ repeated_nothing n
