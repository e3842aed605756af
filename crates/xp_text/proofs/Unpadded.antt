-- Texts without the spaces at their ends.
use Rattle.std.proofs.Common.{◌≡◌, ℕ, ◌+◌, ◌≤◌, suc, List, [], ◌∷◌, length, arith, ◌==◌, Bool, true, false, cond}
use Rattle.xp_value.specs.Order.{before, unpadded}

before_longer : (c : ℕ) (rest : List ℕ) → length (before c rest) ≤ suc (length rest)
before_longer c [] = elim (c == 32) as (λ b. length (cond b [] (c ∷ [])) ≤ 1) [ true ↦ omega arith | false ↦ omega arith ]
before_longer c (d ∷ rest) = omega arith

pub unpadded_shorter : (t : List ℕ) → length (unpadded t) ≤ length t
unpadded_shorter [] = omega arith
unpadded_shorter (c ∷ rest) = omega (arith, before_longer c (unpadded rest), unpadded_shorter rest)
