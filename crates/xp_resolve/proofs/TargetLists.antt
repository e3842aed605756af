-- What the parameters ask for, one after another.
use Rattle.std.proofs.Common.{◌≡◌, ℕ, ◌+◌, ◌-◌, ◌<◌, ◌≤◌, List, [], ◌∷◌, ◌++◌, Bool, true, false, ◌==◌, ◌&&◌, zero, suc, drop, get_or, length, replicate, slice_get, take, zip, refl, sym, ◌∙◌, ap, arith, Some, None}
use Rattle.std.specs.Option.{option_and_then}
use Rattle.std.proofs.lemmas.Bool.Decides.{nat_tests}
use Rattle.std.specs.List.{All}
use Rattle.std.proofs.lemmas.List.{drop_all}
use Rattle.std.proofs.lemmas.List.Elements.{All-append, All-cons, All-nil}
use Rattle.std.proofs.lemmas.Option.{slice_get-get_or}
use Rattle.xp_base.specs.declared.numbers.TypeNo.{TypeNo}
use Rattle.xp_catalog.specs.Contents.{Contents}
use Rattle.xp_poly.proofs.Lists.{zip_from}
use Rattle.xp_resolve.specs.declared.nodes.Taking.{Taking}
use Rattle.xp_resolve.specs.declared.targets.Target.{Target}
use Rattle.xp_resolve.specs.Targets.{is_last, target_of, targets}

-- nothing is left behind the last
last_at : (xs ys : List TypeNo) (p : ℕ) (d e : TypeNo) → p < length xs → length xs ≡ length ys → is_last (zip (drop (p + 1) xs) (drop (p + 1) ys)) ≡ (p + 1 == length xs)
last_at xs ys p d e within same = go (p + 1 == length xs) refl
  where
    go : (b : Bool) → (p + 1 == length xs) ≡ b → is_last (zip (drop (p + 1) xs) (drop (p + 1) ys)) ≡ (p + 1 == length xs)
    go true is =
        let end : length xs ≤ p + 1 = grind (arith, nat_tests, is) in
        rw (is, drop_all (p + 1) xs end) refl
    go false is =
        let more : p + 1 < length xs = grind (arith, nat_tests, is, within) in
        rw (is, zip_from xs ys (p + 1) d e more (omega (arith, more, same))) refl

-- the target at a place comes before those behind it
pub at_turn : (c : Contents) (taking : Taking) (variadic : Bool) (list : List Target) (xs ys : List TypeNo) (p : ℕ) (d e : TypeNo) → p < length xs → length xs ≡ length ys → targets taking c variadic list (zip (drop p xs) (drop p ys)) ≡ option_and_then (λ t. targets taking c variadic (list ++ t ∷ []) (zip (drop (p + 1) xs) (drop (p + 1) ys))) (target_of taking c (variadic && (p + 1 == length xs)) (get_or xs p d, get_or ys p e))
at_turn c taking variadic list xs ys p d e within same =
    rw (zip_from xs ys p d e within (omega (arith, within, same)), last_at xs ys p d e within same) refl

pub stepped : (c : Contents) (taking : Taking) (variadic spread : Bool) (list : List Target) (xs ys : List TypeNo) (p : ℕ) (d e : TypeNo) (t : Target) → p < length xs → length xs ≡ length ys → spread ≡ (variadic && (p + 1 == length xs)) → target_of taking c spread (get_or xs p d, get_or ys p e) ≡ Some t → targets taking c variadic (list ++ t ∷ []) (zip (drop (p + 1) xs) (drop (p + 1) ys)) ≡ targets taking c variadic list (zip (drop p xs) (drop p ys))
stepped c taking variadic spread list xs ys p d e t within same is found =
    let own : target_of taking c (variadic && (p + 1 == length xs)) (get_or xs p d, get_or ys p e) ≡ Some t = rw is at found in
    sym (at_turn c taking variadic list xs ys p d e within same ∙ ap (option_and_then (λ a. targets taking c variadic (list ++ a ∷ []) (zip (drop (p + 1) xs) (drop (p + 1) ys)))) own)

pub stopped : (c : Contents) (taking : Taking) (variadic spread : Bool) (list : List Target) (xs ys : List TypeNo) (p : ℕ) (d e : TypeNo) → p < length xs → length xs ≡ length ys → spread ≡ (variadic && (p + 1 == length xs)) → target_of taking c spread (get_or xs p d, get_or ys p e) ≡ None → targets taking c variadic list (zip (drop p xs) (drop p ys)) ≡ None
stopped c taking variadic spread list xs ys p d e within same is found =
    let own : target_of taking c (variadic && (p + 1 == length xs)) (get_or xs p d, get_or ys p e) ≡ None = rw is at found in
    at_turn c taking variadic list xs ys p d e within same ∙ ap (option_and_then (λ a. targets taking c variadic (list ++ a ∷ []) (zip (drop (p + 1) xs) (drop (p + 1) ys)))) own

pub at_end : (c : Contents) (taking : Taking) (variadic : Bool) (list : List Target) (xs ys : List TypeNo) → targets taking c variadic list (zip (drop (length xs) xs) (drop (length xs) ys)) ≡ Some list
at_end c taking variadic list xs ys = rw (drop_all (length xs) xs (omega arith)) refl

-- ---- the last, and those in front

length_zip : {X Y : Type 0} (xs : List X) (ys : List Y) → length xs ≡ length ys → length (zip xs ys) ≡ length xs
length_zip [] [] same = refl
length_zip [] (y ∷ ys) same = absurd (cc same)
length_zip (x ∷ xs) [] same = absurd (cc same)
length_zip (x ∷ xs) (y ∷ ys) same = ap (λ n. suc n) (length_zip xs ys (cc same))

zip_taken : {X Y : Type 0} (n : ℕ) (xs : List X) (ys : List Y) → take n (zip xs ys) ≡ zip (take n xs) (take n ys)
zip_taken zero xs ys = refl
zip_taken (suc n) [] ys = refl
zip_taken (suc n) (x ∷ xs) [] = refl
zip_taken (suc n) (x ∷ xs) (y ∷ ys) = ap (λ pairs. (x, y) ∷ pairs) (zip_taken n xs ys)

zip_at : {X Y : Type 0} (xs : List X) (ys : List Y) (k : ℕ) (x : X) (y : Y) → slice_get xs k ≡ Some x → slice_get ys k ≡ Some y → slice_get (zip xs ys) k ≡ Some (x, y)
zip_at [] ys k x y at_x at_y = absurd (cc at_x)
zip_at (first ∷ xs) [] k x y at_x at_y = absurd (cc at_y)
zip_at (first ∷ xs) (other ∷ ys) zero x y at_x at_y =
    let same_x : first ≡ x = cc at_x in
    let same_y : other ≡ y = cc at_y in
    rw (same_x, same_y) refl
zip_at (first ∷ xs) (other ∷ ys) (suc k) x y at_x at_y = zip_at xs ys k x y at_x at_y

pub in_front : (xs ys : List TypeNo) (count : ℕ) → length xs ≡ length ys → take (length (zip xs ys) - count) (zip xs ys) ≡ zip (take (length xs - count) xs) (take (length xs - count) ys)
in_front xs ys count same = rw (length_zip xs ys same) (zip_taken (length xs - count) xs ys)

pub last_pair : (xs ys : List TypeNo) (x y : TypeNo) → length xs ≡ length ys → slice_get xs (length xs - 1) ≡ Some x → slice_get ys (length ys - 1) ≡ Some y → slice_get (zip xs ys) (length (zip xs ys) - 1) ≡ Some (x, y)
last_pair xs ys x y same at_x at_y = rw (length_zip xs ys same) (zip_at xs ys (length xs - 1) x y at_x (rw (← same) at at_y))

pub no_last_pair : (xs ys : List TypeNo) → length xs ≡ length ys → slice_get xs (length xs - 1) ≡ None → slice_get (zip xs ys) (length (zip xs ys) - 1) ≡ None
no_last_pair [] ys same none = refl
no_last_pair (x ∷ xs) ys same none =
    let there : slice_get (x ∷ xs) (length (x ∷ xs) - 1) ≡ Some (get_or (x ∷ xs) (length (x ∷ xs) - 1) x) = slice_get-get_or (x ∷ xs) (length (x ∷ xs) - 1) x (omega arith) in
    absurd (cc (none, there))

pub no_other_pair : (xs ys : List TypeNo) → length xs ≡ length ys → slice_get ys (length ys - 1) ≡ None → slice_get (zip xs ys) (length (zip xs ys) - 1) ≡ None
no_other_pair [] ys same none = refl
no_other_pair (x ∷ xs) [] same none = absurd (cc same)
no_other_pair (x ∷ xs) (y ∷ ys) same none =
    let there : slice_get (y ∷ ys) (length (y ∷ ys) - 1) ≡ Some (get_or (y ∷ ys) (length (y ∷ ys) - 1) y) = slice_get-get_or (y ∷ ys) (length (y ∷ ys) - 1) y (omega arith) in
    absurd (cc (none, there))

pub all_copies : {A : Type 0} (P : A → Type 0) (front : List A) (each : A) (count : ℕ) → All P front → P each → All P (front ++ replicate count each)
all_copies P front each count all one = All-append P front (replicate count each) all (copies count)
  where
    copies : (n : ℕ) → All P (replicate n each)
    copies zero = All-nil P
    copies (suc n) = All-cons P each (replicate n each) one (copies n)
