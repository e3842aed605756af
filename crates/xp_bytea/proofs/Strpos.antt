-- The place of the first occurrence, by the places before it.
use Rattle.std.proofs.Common.{◌≡◌, ℕ, ◌+◌, ◌<◌, ◌≤◌, ◌==◌, ◌&&◌, Bool, true, false, List, [], ◌∷◌, ◌++◌, refl, ap, sym, ◌∙◌, arith, cond, drop, take, length, Option, Some, None, subst, eq-eqb}
use Rattle.std.proofs.lemmas.Bool.{eqb-true}
use Rattle.std.proofs.lemmas.List.{drop_all, length-take-le, take-append-drop}
use Rattle.std.specs.List.{starts_with}
use Rattle.std.specs.Option.{option_map, unwrap_or}
use Rattle.xp_characters.specs.Search.{begins, first_at, strpos}
use Rattle.xp_characters.proofs.FirstAt.{first_found, first_none}

same_and : (b c : Bool) → cond b c false ≡ b && c
same_and true c = refl
same_and false c = refl

same_truth : (a b : Bool) → (a ≡ true → b ≡ true) → (b ≡ true → a ≡ true) → a ≡ b
same_truth true b f g = sym (f refl)
same_truth false true f g = g refl
same_truth false false f g = refl

either_way : (a b : ℕ) → (a == b) ≡ (b == a)
either_way a b = same_truth (a == b) (b == a) (λ e. eq-eqb b a (sym (eqb-true a b e))) (λ e. eq-eqb a b (sym (eqb-true b a e)))

-- as the slices of the library begin
pub begins_so : (xs ys : List ℕ) → starts_with (λ x y. x == y) xs ys ≡ begins xs ys
begins_so xs [] = refl
begins_so [] (y ∷ ys) = refl
begins_so (x ∷ xs) (y ∷ ys) = ap (λ b. b && starts_with (λ a c. a == c) xs ys) (either_way y x) ∙ ap (λ b. (x == y) && b) (begins_so xs ys) ∙ sym (same_and (x == y) (begins xs ys))

pub strpos_found : (xs ys : List ℕ) (i : ℕ) → i ≤ length xs → begins (drop i xs) ys ≡ true → ((k : ℕ) → k < i → begins (drop k xs) ys ≡ false) → i + 1 ≡ strpos xs ys
strpos_found xs ys i h e none =
    let size : length (take i xs) ≡ i = length-take-le i xs h in
    let whole : take i xs ++ drop i xs ≡ xs = take-append-drop i xs in
    let found = first_found (take i xs) (drop i xs) ys e (λ k j. subst (λ l. begins (drop k l) ys ≡ false) (sym whole) (none k (omega arith))) in
    let at : first_at xs ys ≡ Some i = ap (λ l. first_at l ys) (sym whole) ∙ found ∙ ap Some size in
    sym (ap (λ o. unwrap_or (option_map (λ k. k + 1) o) 0) at)

pub strpos_nowhere : (xs ys : List ℕ) → ((k : ℕ) → k ≤ length xs → begins (drop k xs) ys ≡ false) → 0 ≡ strpos xs ys
strpos_nowhere xs ys none = sym (ap (λ o. unwrap_or (option_map (λ k. k + 1) o) 0) (first_none xs ys none))
