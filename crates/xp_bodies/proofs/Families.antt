-- Places and elements in a list that is one list behind another.
use Rattle.std.proofs.Common.{◌≡◌, ℕ, zero, suc, ◌+◌, ◌<◌, List, [], ◌∷◌, ◌++◌, Bool, true, false, cond, length, map, Option, Some, None, refl, sym, ap, ◌∙◌, arith}
use Rattle.std.specs.List.{position, position_from, slice_get}
use Rattle.std.specs.Option.{option_map}
use Rattle.std.proofs.lemmas.Iterator.Adapters.{position_from-zero}

abbrev pub or_else : {X : Type 0} → Option X → Option X → Option X
or_else None more = more
or_else (Some x) more = Some x

-- the first place in the first list, or else in the second
pub position_from-append : {X : Type 0} (p : X → Bool) (n : ℕ) (xs ys : List X) → position_from p n (xs ++ ys) ≡ or_else (position_from p n xs) (position_from p (n + length xs) ys)
position_from-append p n [] ys = let e : n ≡ n + 0 = omega arith in ap (λ (k : ℕ). position_from p k ys) e
position_from-append p n (x ∷ xs) ys =
    let e : n + 1 + length xs ≡ n + suc (length xs) = omega arith in
    let more : position_from p (n + 1) (xs ++ ys) ≡ or_else (position_from p (n + 1) xs) (position_from p (n + suc (length xs)) ys) =
    position_from-append p (n + 1) xs ys ∙ ap (λ (k : ℕ). or_else (position_from p (n + 1) xs) (position_from p k ys)) e in
    elim (p x) as (λ v. cond v (Some n) (position_from p (n + 1) (xs ++ ys)) ≡ or_else (cond v (Some n) (position_from p (n + 1) xs)) (position_from p (n + suc (length xs)) ys)) [
      | true ↦ refl
      | false ↦ more
    ]

-- a place counted from further on, in the list of what each element stands for
position_from-later : {X Y : Type 0} (v : X → Y) (p : Y → Bool) (m n k : ℕ) (xs : List X) → k ≡ m + n → position_from p k (map v xs) ≡ option_map (λ i. m + i) (position_from (λ x. p (v x)) n xs)
position_from-later v p m n k [] e = refl
position_from-later v p m n k (x ∷ xs) e =
    let at : k + 1 ≡ m + (n + 1) = omega arith in
    elim (p (v x)) as (λ b. cond b (Some k) (position_from p (k + 1) (map v xs)) ≡ option_map (λ i. m + i) (cond b (Some n) (position_from (λ y. p (v y)) (n + 1) xs))) [
      | true ↦ ap Some e
      | false ↦ position_from-later v p m (n + 1) (k + 1) xs at
    ]

pub position_from-map : {X Y : Type 0} (v : X → Y) (p : Y → Bool) (m : ℕ) (xs : List X) → position_from p m (map v xs) ≡ option_map (λ i. m + i) (position (λ x. p (v x)) xs)
position_from-map v p m xs =
    let e : m ≡ m + 0 = omega arith in
    position_from-later v p m 0 m xs e ∙ ap (λ (o : Option ℕ). option_map (λ i. m + i) o) (sym (position_from-zero (λ x. p (v x)) xs))

-- an element of the first list
pub slice_get-front : {X : Type 0} (xs ys : List X) (i : ℕ) → i < length xs → slice_get (xs ++ ys) i ≡ slice_get xs i
slice_get-front [] ys i h = absurd (omega arith)
slice_get-front (x ∷ xs) ys zero h = refl
slice_get-front (x ∷ xs) ys (suc i) h = slice_get-front xs ys i (omega arith)

-- an element of the second list
pub slice_get-behind : {X : Type 0} (xs ys : List X) (i j : ℕ) → i ≡ length xs + j → slice_get (xs ++ ys) i ≡ slice_get ys j
slice_get-behind [] ys i j e = let f : i ≡ j = omega arith in ap (λ (k : ℕ). slice_get ys k) f
slice_get-behind (x ∷ xs) ys zero j e = absurd (omega arith)
slice_get-behind (x ∷ xs) ys (suc i) j e = slice_get-behind xs ys i j (omega arith)
