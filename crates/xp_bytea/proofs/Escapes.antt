-- The bytes of a text with escapes, one after another.
use Rattle.std.proofs.Common.{◌≡◌, ℕ, zero, suc, ◌+◌, ◌-◌, ◌<◌, ◌≤◌, List, [], ◌∷◌, ◌++◌, refl, ap, sym, ◌∙◌, arith, drop, length, Option, Some, None, append_assoc}
use Rattle.std.specs.Option.{option_map}
use Rattle.xp_bytea.specs.Texts.{escaped_from, piece, with_piece}

pub left_over : (n : ℕ) (cs : List ℕ) → escaped_from n cs ≡ escaped_from 0 (drop n cs)
left_over zero cs = refl
left_over (suc n) [] = refl
left_over (suc n) (c ∷ cs) = left_over n cs

behind_first : (c : ℕ) (cs : List ℕ) (n : ℕ) → 0 < n → drop (n - 1) cs ≡ drop n (c ∷ cs)
behind_first c cs zero h = absurd (omega arith)
behind_first c cs (suc n) h = ap (λ k. drop k cs) (omega arith)

-- one byte, and the rest of the text
pub escaped_step : (text : List ℕ) (byte n : ℕ) → 0 < length text → piece text ≡ Some (byte, n) → 0 < n → escaped_from 0 text ≡ option_map (λ bytes. byte ∷ bytes) (escaped_from 0 (drop n text))
escaped_step [] byte n h e k = absurd (omega arith)
escaped_step (c ∷ cs) byte n h e k =
    ap (λ p. with_piece p (λ left. escaped_from left cs)) e
    ∙ ap (option_map (λ bytes. byte ∷ bytes)) (left_over (n - 1) cs ∙ ap (escaped_from 0) (behind_first c cs n k))

pub escaped_stop : (text : List ℕ) → 0 < length text → piece text ≡ None → escaped_from 0 text ≡ None
escaped_stop [] h e = absurd (omega arith)
escaped_stop (c ∷ cs) h e = ap (λ p. with_piece p (λ left. escaped_from left cs)) e

-- one byte more behind those that are read
pub one_more : (out : List ℕ) (byte : ℕ) (o : Option (List ℕ)) → option_map (λ bytes. out ++ bytes) (option_map (λ bytes. byte ∷ bytes) o) ≡ option_map (λ bytes. (out ++ byte ∷ []) ++ bytes) o
one_more out byte None = refl
one_more out byte (Some bytes) = ap Some (sym (append_assoc out (byte ∷ []) bytes))
