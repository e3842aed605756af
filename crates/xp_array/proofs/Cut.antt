-- The first field of a text, by its bytes.
use Rattle.std.proofs.Common.{◌≡◌, ℕ, ◌<◌, Bool, true, false, List, [], ◌∷◌, ◌++◌, refl, sym, ap, ◌∙◌, arith, drop, length, Some, None}
use Rattle.std.proofs.lemmas.List.{nil_from_length}
use Rattle.std.specs.Str.Pattern.{FindsText, LacksTextAt, SplitsAroundMatch}
use Rattle.xp_characters.specs.Search.{begins, first_at}
use Rattle.xp_characters.proofs.FirstAt.{begins_with, first_found, first_none, rest_behind}
use Rattle.xp_text.specs.Fields.{fields}
use Rattle.xp_text.proofs.Around.{around_bytes}
use Rattle.xp_text.proofs.Cut.{divided, undivided}

false_unless : (b : Bool) → (b ≡ true → ⊥) → b ≡ false
false_unless true wrong = absurd (wrong refl)
false_unless false wrong = refl

begins_nowhere : (s n : List ℕ) (k : ℕ) → LacksTextAt n s k → begins (drop k s) n ≡ false
begins_nowhere s n k absent = false_unless (begins (drop k s) n) (λ b. let there = rest_behind (drop k s) n b in absent there.0 there.1)

pub one_field : (s n : List ℕ) → FindsText n s None → fields n s ≡ s ∷ []
one_field s n absent = undivided n s (first_none s n (λ k h. begins_nowhere s n k (absent k h)))

first_there : (s n front back : List ℕ) → SplitsAroundMatch (FindsText n) s front back → first_at s n ≡ Some (length front)
first_there s n front back (i, j, at, f, b, h, k, l) =
    let whole : s ≡ front ++ (n ++ back) = around_bytes s n front back (i, j, at, f, b, h, k, l) in
    ap (λ t. first_at t n) whole
    ∙ first_found front (n ++ back) n (begins_with n back) (λ m below. ap (λ t. begins (drop m t) n) (sym whole) ∙ begins_nowhere s n m (at.0 m (omega (arith, below, k))))

pub first_field : (s n front back : List ℕ) → 0 < length n → SplitsAroundMatch (FindsText n) s front back → fields n s ≡ front ∷ fields n back
first_field s n front back some at = divided n s front back some (around_bytes s n front back at) (first_there s n front back at)

pub without_delimiter : (s n : List ℕ) → length n ≡ 0 → fields n s ≡ s ∷ []
without_delimiter s n e = ap (λ d. fields d s) (nil_from_length n e)
