-- What cutting white space off the end leaves.
use Rattle.std.proofs.Common.{◌≡◌, ℕ, suc, ◌-◌, ◌<◌, List, [], ◌∷◌, ◌++◌, length, get_or, take, refl, sym, ap, ◌∙◌, arith, true, false, drop-cons}
use Rattle.std.proofs.lemmas.List.{take-append-drop}
use Rattle.xp_base.proofs.Lists.{drop_none}
use Rattle.xp_lexer.specs.Bytes.{is_space}
use Rattle.xp_io.specs.Space.{before, trimmed_end}

-- white space at the end doesn't count
spaced : (s : List ℕ) (b : ℕ) → is_space b ≡ true → trimmed_end (s ++ b ∷ []) ≡ trimmed_end s
spaced [] b e = rw e refl
spaced (c ∷ s) b e = ap (before c) (spaced s b e)

before_some : (c : ℕ) (s : List ℕ) (b : ℕ) → before c (s ++ b ∷ []) ≡ c ∷ (s ++ b ∷ [])
before_some c [] b = refl
before_some c (d ∷ s) b = refl

-- a text that ends in another byte is whole
whole : (s : List ℕ) (b : ℕ) → is_space b ≡ false → trimmed_end (s ++ b ∷ []) ≡ s ++ b ∷ []
whole [] b e = rw e refl
whole (c ∷ s) b e = ap (before c) (whole s b e) ∙ before_some c s b

parted : (s : List ℕ) (d : ℕ) → 0 < length s → s ≡ take (length s - 1) s ++ get_or s (length s - 1) d ∷ []
parted s d some =
    sym (take-append-drop (length s - 1) s)
    ∙ ap (λ r. take (length s - 1) s ++ r) (drop-cons s (length s - 1) d (omega arith) ∙ ap (λ r. get_or s (length s - 1) d ∷ r) (drop_none s (suc (length s - 1)) (omega arith)))

pub cut : (s : List ℕ) (d : ℕ) → 0 < length s → is_space (get_or s (length s - 1) d) ≡ true → trimmed_end (take (length s - 1) s) ≡ trimmed_end s
cut s d some e = sym (spaced (take (length s - 1) s) (get_or s (length s - 1) d) e) ∙ sym (ap trimmed_end (parted s d some))

pub kept : (s : List ℕ) (d : ℕ) → 0 < length s → is_space (get_or s (length s - 1) d) ≡ false → s ≡ trimmed_end s
kept s d some e = parted s d some ∙ sym (whole (take (length s - 1) s) (get_or s (length s - 1) d) e) ∙ sym (ap trimmed_end (parted s d some))
