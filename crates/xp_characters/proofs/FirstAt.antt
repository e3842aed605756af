-- The first occurrence of a list in another.
use Rattle.std.proofs.Common.{◌≡◌, ℕ, zero, suc, ◌+◌, ◌<◌, ◌≤◌, ◌==◌, Bool, true, false, List, [], ◌∷◌, ◌++◌, refl, ap, sym, ◌∙◌, arith, cond, drop, length, Option, Some, None, add-one, eq-eqb, subst}
use Rattle.std.proofs.lemmas.Bool.{eqb-true}
use Rattle.std.specs.Option.{option_map}
use Rattle.xp_characters.specs.Search.{begins, first_at}

-- a list begins with what it is made of
pub begins_with : (ys rest : List ℕ) → begins (ys ++ rest) ys ≡ true
begins_with [] rest = refl
begins_with (y ∷ ys) rest = ap (λ b. cond b (begins (ys ++ rest) ys) false) (eq-eqb y y refl) ∙ begins_with ys rest

one_before : (x y : ℕ) (xs ys : List ℕ) → x ≡ y → (rest : List ℕ) × (xs ≡ ys ++ rest) → (rest : List ℕ) × (x ∷ xs ≡ y ∷ ys ++ rest)
one_before x y xs ys e (rest, f) = (rest, cc)

both : (x y : ℕ) (xs ys : List ℕ) (b : Bool) → (x == y) ≡ b → cond b (begins xs ys) false ≡ true → (x ≡ y) × (begins xs ys ≡ true)
both x y xs ys true e f = (eqb-true x y e, f)
both x y xs ys false e f = absurd cc

pub rest_behind : (xs ys : List ℕ) → begins xs ys ≡ true → (rest : List ℕ) × (xs ≡ ys ++ rest)
rest_behind xs [] e = (xs, refl)
rest_behind [] (y ∷ ys) e = absurd cc
rest_behind (x ∷ xs) (y ∷ ys) e =
    let parts = both x y xs ys (x == y) refl e in
    one_before x y xs ys parts.0 (rest_behind xs ys parts.1)

pub first_here : (xs ys : List ℕ) → begins xs ys ≡ true → first_at xs ys ≡ Some 0
first_here [] ys e = ap (λ b. cond b (Some 0) None) e
first_here (x ∷ xs) ys e = ap (λ b. cond b (Some 0) (option_map (λ k. k + 1) (first_at xs ys))) e

pub first_later : (x : ℕ) (xs ys : List ℕ) → begins (x ∷ xs) ys ≡ false → first_at (x ∷ xs) ys ≡ option_map (λ k. k + 1) (first_at xs ys)
first_later x xs ys e = ap (λ b. cond b (Some 0) (option_map (λ k. k + 1) (first_at xs ys))) e

-- it stands behind these elements, at none of which it begins
pub first_found : (front rest ys : List ℕ) → begins rest ys ≡ true → ((k : ℕ) → k < length front → begins (drop k (front ++ rest)) ys ≡ false) → first_at (front ++ rest) ys ≡ Some (length front)
first_found [] rest ys e none = first_here rest ys e
first_found (x ∷ front) rest ys e none =
    first_later x (front ++ rest) ys (none 0 (omega arith))
    ∙ ap (option_map (λ k. k + 1)) (first_found front rest ys e (λ k h. none (suc k) (omega arith)))
    ∙ ap Some (add-one (length front))

pub first_none : (xs ys : List ℕ) → ((k : ℕ) → k ≤ length xs → begins (drop k xs) ys ≡ false) → first_at xs ys ≡ None
first_none [] ys none = ap (λ b. cond b (Some 0) None) (none 0 (omega arith))
first_none (x ∷ xs) ys none =
    first_later x xs ys (none 0 (omega arith))
    ∙ ap (option_map (λ k. k + 1)) (first_none xs ys (λ k h. none (suc k) (omega arith)))
