-- Characters of a set at the end of a text.
use Rattle.std.proofs.Common.{◌≡◌, ℕ, Bool, true, false, List, [], ◌∷◌, ◌++◌, refl, ap, sym, ◌∙◌, cond, reverse}
use Rattle.std.proofs.lemmas.List.{reverse-append, reverse-reverse}
use Rattle.std.proofs.lemmas.Str.{encodes-append}
use Rattle.std.specs.Char.{encode_utf8}
use Rattle.std.specs.Str.{chars, encode_utf8_all}
use Rattle.xp_text.specs.Sets.{is_in, ltrim, rtrim}

pub last_first : (cs : List ℕ) (c : ℕ) → reverse (cs ++ c ∷ []) ≡ c ∷ reverse cs
last_first cs c = reverse-append cs (c ∷ [])

-- it goes
pub rtrim_drops : (set xs cs : List ℕ) (c : ℕ) → is_in set c ≡ true → xs ≡ cs ++ c ∷ [] → rtrim set xs ≡ rtrim set cs
rtrim_drops set xs cs c e f =
    ap (rtrim set) f ∙ ap (λ l. reverse (ltrim set l)) (last_first cs c) ∙ ap (λ b. reverse (cond b (ltrim set (reverse cs)) (c ∷ reverse cs))) e

-- another one keeps what is before it
pub rtrim_keeps : (set xs cs : List ℕ) (c : ℕ) → is_in set c ≡ false → xs ≡ cs ++ c ∷ [] → rtrim set xs ≡ xs
rtrim_keeps set xs cs c e f =
    ap (rtrim set) f ∙ ap (λ l. reverse (ltrim set l)) (last_first cs c)
    ∙ ap (λ b. reverse (cond b (ltrim set (reverse cs)) (c ∷ reverse cs))) e
    ∙ ap reverse (sym (last_first cs c)) ∙ reverse-reverse (cs ++ c ∷ []) ∙ sym f

-- the bytes of characters in the other order
pub reversed_bytes : (xs cs : List ℕ) (c : ℕ) → xs ≡ cs ++ c ∷ [] → encode_utf8_all (reverse xs) ≡ encode_utf8 c ++ encode_utf8_all (reverse cs)
reversed_bytes xs cs c e = ap (λ l. encode_utf8_all (reverse l)) e ∙ ap encode_utf8_all (last_first cs c)

-- the set of a space
pub chars_of_space : chars (32 ∷ []) ≡ 32 ∷ []
unfolding chars
chars_of_space = refl
