-- The parts of a pattern, one after another.
use Rattle.std.proofs.Common.{◌≡◌, ℕ, ◌==◌, ◌&&◌, Bool, true, false, List, [], ◌∷◌, refl, ap, sym, ◌∙◌, arith, cond, suc}
use Rattle.xp_like.specs.Patterns.{ends_in_escape, part, parts}
use Rattle.xp_like.specs.inner.Runs.{behind, fits, is_any_text, takes, width}
use Rattle.xp_like.specs.declared.parts.Part.{Part}
use Rattle.xp_like.specs.declared.parts.Part.TheVariants.{AnyText, AnyOne, Plain}

-- a character that is no backslash is a part by itself
pub parts_bare : (c : ℕ) (rest : List ℕ) → (c == 92) ≡ false → parts (c ∷ rest) ≡ part c ∷ parts rest
parts_bare c [] e = ap (λ b. cond b [] (part c ∷ [])) e
parts_bare c (d ∷ rest) e = ap (λ b. cond b (Plain d ∷ parts rest) (part c ∷ parts (d ∷ rest))) e

-- a backslash makes the next plain
pub parts_escaped : (c d : ℕ) (rest : List ℕ) → (c == 92) ≡ true → parts (c ∷ d ∷ rest) ≡ Plain d ∷ parts rest
parts_escaped c d rest e = ap (λ b. cond b (Plain d ∷ parts rest) (part c ∷ parts (d ∷ rest))) e

-- alone at the end it is no part
pub parts_alone : (c : ℕ) → (c == 92) ≡ true → parts (c ∷ []) ≡ []
parts_alone c e = ap (λ b. cond b [] (part c ∷ [])) e

pub ends_bare : (c : ℕ) (rest : List ℕ) → (c == 92) ≡ false → ends_in_escape (c ∷ rest) ≡ ends_in_escape rest
ends_bare c [] e = e
ends_bare c (d ∷ rest) e = ap (λ b. cond b (ends_in_escape rest) (ends_in_escape (d ∷ rest))) e

pub ends_escaped : (c d : ℕ) (rest : List ℕ) → (c == 92) ≡ true → ends_in_escape (c ∷ d ∷ rest) ≡ ends_in_escape rest
ends_escaped c d rest e = ap (λ b. cond b (ends_in_escape rest) (ends_in_escape (d ∷ rest))) e

-- one part against one character
pub fits_step : (p : Part) (ps : List Part) (c : ℕ) (cs : List ℕ) → is_any_text p ≡ false → fits (p ∷ ps) (c ∷ cs) ≡ takes p c && fits ps cs
fits_step AnyText ps c cs e = cc
fits_step AnyOne ps c cs e = refl
fits_step (Plain d) ps c cs e = refl

pub fits_no_more : (p : Part) (ps : List Part) → is_any_text p ≡ false → fits (p ∷ ps) [] ≡ false
fits_no_more AnyText ps e = cc
fits_no_more AnyOne ps e = refl
fits_no_more (Plain d) ps e = refl

pub behind_step : (p : Part) (ps : List Part) → is_any_text p ≡ false → behind (p ∷ ps) ≡ behind ps
behind_step AnyText ps e = cc
behind_step AnyOne ps e = refl
behind_step (Plain d) ps e = refl

pub width_step : (p : Part) (ps : List Part) → is_any_text p ≡ false → width (p ∷ ps) ≡ suc (width ps)
width_step AnyText ps e = cc
width_step AnyOne ps e = refl
width_step (Plain d) ps e = refl

-- the same at a `%`
pub at_any_text : (p : Part) (ps : List Part) → is_any_text p ≡ true → p ≡ AnyText
at_any_text AnyText ps e = refl
at_any_text AnyOne ps e = cc
at_any_text (Plain d) ps e = cc
