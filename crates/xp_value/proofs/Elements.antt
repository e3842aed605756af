-- The order of two lists, from a place on.
use Rattle.std.proofs.Common.{◌≡◌, ℕ, ◌+◌, ◌<◌, ◌≤◌, List, [], ◌∷◌, length, get_or, drop, refl, ◌∙◌, zero, suc, arith}
use Rattle.std.specs.declared.cmp.Ordering.{Ordering}
use Rattle.std.specs.Ordering.{nat_cmp, ordering_then}
use Rattle.std.specs.Cmp.Lexicographic.{slice_cmp}
use Rattle.std.proofs.lemmas.Bool.Decides.{nat_tests}
use Rattle.xp_base.proofs.Lists.{drop_one, drop_none}

-- both lists have an element there
pub order_from : {A : Type 0} (R : A → A → Ordering) (xs ys : List A) (i : ℕ) (x y : A) → i < length xs → i < length ys → x ≡ get_or xs i x → y ≡ get_or ys i y → slice_cmp R (drop i xs) (drop i ys) ≡ ordering_then (R x y) (slice_cmp R (drop (i + 1) xs) (drop (i + 1) ys))
order_from R xs ys i x y h k e f = rw (drop_one xs i x h e, drop_one ys i y k f) refl

-- the second list has ended
pub order_past_second : {A : Type 0} (R : A → A → Ordering) (xs ys : List A) (i : ℕ) (x : A) → i < length xs → length ys ≤ i → x ≡ get_or xs i x → slice_cmp R (drop i xs) (drop i ys) ≡ Ordering.Greater
order_past_second R xs ys i x h k e = rw (drop_one xs i x h e, drop_none ys i k) refl

first_ends : {A : Type 0} (R : A → A → Ordering) (ys : List A) → slice_cmp R [] ys ≡ nat_cmp 0 (length ys)
first_ends R [] = refl
first_ends R (y ∷ ys) = grind (arith, nat_tests)

-- the first list has ended
pub order_past_first : {A : Type 0} (R : A → A → Ordering) (xs ys : List A) (i : ℕ) → length xs ≤ i → i ≤ length ys → i ≤ length xs → slice_cmp R (drop i xs) (drop i ys) ≡ nat_cmp (length xs) (length ys)
order_past_first R [] ys zero h k l = first_ends R ys
order_past_first R [] [] (suc i) h k l = absurd (omega arith)
order_past_first R [] (y ∷ ys) (suc i) h k l = absurd (omega arith)
order_past_first R (x ∷ xs) ys zero h k l = absurd (omega arith)
order_past_first R (x ∷ xs) [] (suc i) h k l = absurd (omega arith)
order_past_first R (x ∷ xs) (y ∷ ys) (suc i) h k l = order_past_first R xs ys i (omega arith) (omega arith) (omega arith) ∙ grind (arith, nat_tests)
