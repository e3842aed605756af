-- The character that takes the place of another.
use Rattle.std.proofs.Common.{◌≡◌, ℕ, ◌==◌, Bool, true, false, List, [], ◌∷◌, refl, ap, cond, drop, take}
use Rattle.xp_text.specs.Sets.{exchanged}

pub exchanged_here : (o : ℕ) (old new : List ℕ) (c : ℕ) → (o == c) ≡ true → exchanged (o ∷ old) new c ≡ take 1 new
exchanged_here o old [] c e = ap (λ b. cond b [] (exchanged old [] c)) e
exchanged_here o old (n ∷ new) c e = ap (λ b. cond b (n ∷ []) (exchanged old new c)) e

pub exchanged_later : (o : ℕ) (old new : List ℕ) (c : ℕ) → (o == c) ≡ false → exchanged (o ∷ old) new c ≡ exchanged old (drop 1 new) c
exchanged_later o old [] c e = ap (λ b. cond b [] (exchanged old [] c)) e
exchanged_later o old (n ∷ new) c e = ap (λ b. cond b (n ∷ []) (exchanged old new c)) e

pub exchanged_nowhere : (new : List ℕ) (c : ℕ) → exchanged [] new c ≡ c ∷ []
exchanged_nowhere [] c = refl
exchanged_nowhere (n ∷ new) c = refl
