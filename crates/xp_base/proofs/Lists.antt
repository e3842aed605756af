-- What a loop over a list has left: its next element, and what is behind it.
use Rattle.std.proofs.Common.{◌≡◌, ℕ, zero, suc, ◌+◌, ◌<◌, ◌≤◌, List, [], ◌∷◌, ◌++◌, length, get_or, slice_get, Some, drop, map, refl, sym, ap, ◌∙◌, arith, add-one, drop-cons}
use Rattle.std.proofs.lemmas.List.{drop_more}
use Rattle.std.proofs.lemmas.Option.{get_or_from_slice_get, slice_get_within}
use Rattle.std.specs.List.{concat}

pub drop_one : {A : Type 0} (xs : List A) (i : ℕ) (x : A) → i < length xs → x ≡ get_or xs i x → drop i xs ≡ x ∷ drop (i + 1) xs
drop_one xs i x h e = drop_more xs i x h ∙ ap (λ y. y ∷ drop (i + 1) xs) (sym e)

-- the same by what stands at the place
pub rest_at : {A : Type 0} (xs : List A) (i : ℕ) (x : A) → slice_get xs i ≡ Some x → drop i xs ≡ x ∷ drop (i + 1) xs
rest_at xs i x at = drop_one xs i x (slice_get_within xs i x at) (sym (get_or_from_slice_get xs i x x at))

pub drop_none : {A : Type 0} (xs : List A) (i : ℕ) → length xs ≤ i → drop i xs ≡ []
drop_none [] zero h = refl
drop_none [] (suc i) h = refl
drop_none (x ∷ xs) zero h = absurd (omega arith)
drop_none (x ∷ xs) (suc i) h = drop_none xs i (omega arith)

-- the pieces from the i-th on are the i-th and those behind it
pub concat-rest : {A : Type 0} (f : A → List ℕ) (xs : List A) (i : ℕ) (x : A) → i < length xs → x ≡ get_or xs i x → concat (map f (drop i xs)) ≡ f x ++ concat (map f (drop (i + 1) xs))
concat-rest f xs i x h e = rw (add-one, drop-cons xs i x, ← e) refl
