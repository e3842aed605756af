-- What is known of a list where a place isn't found.
use Rattle.std.proofs.Common.{◌≡◌, ℕ, ◌<◌, List, [], ◌∷◌, ◌++◌, Bool, true, false, cond, length, get_or, Some, None, nat_lt, refl, arith}
use Rattle.std.specs.List.{AllPairs, position, position_or_len}
use Rattle.std.proofs.lemmas.Bool.Decides.{nat_tests}
use Rattle.std.proofs.lemmas.List.Quantifiers.{all_pairs_push}
use Rattle.std.proofs.lemmas.List.Sums.{fails_before_first}

cond-None : (b : Bool) (k : ℕ) → cond b (Some k) None ≡ None → b ≡ false
cond-None true k h = cc h
cond-None false k h = refl

-- where a test passes at no place, it fails at each
pub position-None : {X : Type 0} (p : X → Bool) (xs : List X) → position p xs ≡ None → (k : ℕ) (d : X) → k < length xs → p (get_or xs k d) ≡ false
position-None p xs h k d within =
    let past : nat_lt (position_or_len p xs) (length xs) ≡ false = cond-None (nat_lt (position_or_len p xs) (length xs)) (position_or_len p xs) h in
    let first : k < position_or_len p xs = grind (arith, nat_tests) in
    fails_before_first p xs k d first

-- elements that differ pairwise still do with one more that none of them is like
pub AllPairs-push : {X : Type 0} (like : X → X → Bool) (xs : List X) (y : X) → AllPairs (λ first second. like second first ≡ false) xs → position (like y) xs ≡ None → AllPairs (λ first second. like second first ≡ false) (xs ++ y ∷ [])
AllPairs-push like xs y all none = all_pairs_push (λ first second. like second first ≡ false) xs y all (λ k d h. position-None (like y) xs none k d h)
