-- What is left of a mask that also asks for a test.
use Rattle.std.proofs.Common.{◌≡◌, ℕ, suc, ◌+◌, ◌<◌, ◌≤◌, List, [], ◌∷◌, Bool, true, false, ◌&&◌, length, get_or, refl, arith}
use Rattle.std.specs.List.{filter}
use Rattle.xp_overload.specs.Places.{kept, kept_from}

kept_from-filter : (test : ℕ → Bool) (i : ℕ) (old new : List Bool) → length new ≡ length old → ((k j : ℕ) → j ≡ i + k → k < length old → get_or new k false ≡ (get_or old k false && test j)) → kept_from i new ≡ filter test (kept_from i old)
kept_from-filter test i [] [] same each = refl
kept_from-filter test i [] (n ∷ new) same each = absurd (omega arith)
kept_from-filter test i (o ∷ old) [] same each = absurd (omega arith)
kept_from-filter test i (true ∷ old) (n ∷ new) same each =
    let head : n ≡ test i = each 0 i (omega arith) (omega arith) in
    let rest : kept_from (i + 1) new ≡ filter test (kept_from (i + 1) old) = kept_from-filter test (i + 1) old new (omega arith) (λ k j at within. each (suc k) j (omega arith) (omega arith)) in
    rw (head, rest) refl
kept_from-filter test i (false ∷ old) (n ∷ new) same each =
    let head : n ≡ false = each 0 i (omega arith) (omega arith) in
    let rest : kept_from (i + 1) new ≡ filter test (kept_from (i + 1) old) = kept_from-filter test (i + 1) old new (omega arith) (λ k j at within. each (suc k) j (omega arith) (omega arith)) in
    rw (head, rest) refl

-- a mask that also asks for a test, up to its end, keeps what the test lets through
pub kept-filter : (test : ℕ → Bool) (old new : List Bool) (end : ℕ) → length new ≡ length old → length old ≤ end → ((k : ℕ) → k < end → get_or new k false ≡ (get_or old k false && test k)) → kept new ≡ filter test (kept old)
kept-filter test old new end same reached each =
    kept_from-filter test 0 old new same (λ k j at within. let here : j ≡ k = omega arith in rw here (each k (omega arith)))
