-- The longest front whose bytes pass a test.
use Rattle.std.proofs.Common.{◌≡◌, ℕ, suc, ◌+◌, Bool, true, false, cond, [], ◌∷◌, take, drop, refl, ap, arith}
use Rattle.std.specs.List.{prefix_len}
use Rattle.xp_lexer.specs.Bytes.{Text}
use Rattle.xp_lexer.specs.Grammar.{Longest}

pub longest_is : (p : ℕ → Bool) (z front rest : Text) → Longest p z front rest → (take (prefix_len p z) z ≡ front) × (drop (prefix_len p z) z ≡ rest)
longest_is p z front rest Longest.at_end = (refl, refl)
longest_is p z front rest (Longest.stops b r e) = rw e (refl, refl)
longest_is p z front rest (Longest.passes b y f r e more) =
    let h = longest_is p y f r more in
    let s : 1 + prefix_len p y ≡ suc (prefix_len p y) = omega arith in
    rw (e, s) (ap (λ t. b ∷ t) h.0, h.1)

pub longest_found : (p : ℕ → Bool) (z : Text) → Longest p z (take (prefix_len p z) z) (drop (prefix_len p z) z)
longest_found p [] = Longest.at_end
longest_found p (b ∷ z) = by (p b) refl (longest_found p z)
  where
    by : (v : Bool) → p b ≡ v → Longest p z (take (prefix_len p z) z) (drop (prefix_len p z) z) → Longest p (b ∷ z) (take (cond v (1 + prefix_len p z) 0) (b ∷ z)) (drop (cond v (1 + prefix_len p z) 0) (b ∷ z))
    by true e more = let s : 1 + prefix_len p z ≡ suc (prefix_len p z) = omega arith in rw s (Longest.passes b z _ _ e more)
    by false e more = Longest.stops b z e
