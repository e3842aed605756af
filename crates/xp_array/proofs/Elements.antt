-- The bytes of one element of an array's text, as they are read.
use Rattle.std.proofs.Common.{◌≡◌, ℕ, ◌-◌, ◌<◌, ◌≤◌, true, false, List, [], ◌∷◌, ◌++◌, length, take, suc, refl, sym, ap, ◌∙◌, arith, Option, Some, None, cond, ◌==◌, append_assoc, append-nil, Ok}
use Rattle.std.specs.Option.{option_map}
use Rattle.xp_array.specs.Marks.{backslash, is_space, past_space}
use Rattle.xp_array.specs.Read.{before, is_end, not_empty, unquoted}
use Rattle.xp_array.specs.inner.Characters.{character, plain}

-- these bytes before those of an element
abbrev pub behind : List ℕ → List ℕ × List ℕ → List ℕ × List ℕ
behind bytes element = (bytes ++ element.0, element.1)

pub one_more : (bytes : List ℕ) (c : ℕ) (element : List ℕ × List ℕ) → behind bytes (before c element) ≡ behind (bytes ++ c ∷ []) element
one_more bytes c element = ap (λ l. (l, element.1)) (sym (append_assoc bytes (c ∷ []) element.0))

pub some_more : (bytes : List ℕ) (c : ℕ) (o : Option (List ℕ × List ℕ)) → option_map (behind bytes) (option_map (before c) o) ≡ option_map (behind (bytes ++ c ∷ [])) o
some_more bytes c None = refl
some_more bytes c (Some element) = ap Some (one_more bytes c element)

pub none_more : (element : List ℕ × List ℕ) → behind [] element ≡ element
none_more element = refl

pub two_more : (bytes more : List ℕ) (element : List ℕ × List ℕ) → behind bytes (behind more element) ≡ behind (bytes ++ more) element
two_more bytes more element = ap (λ l. (l, element.1)) (sym (append_assoc bytes more element.0))

-- white space isn't a backslash
space_is_plain : (c : ℕ) → is_space c ≡ true → (c == backslash) ≡ false
space_is_plain c e = grind arith

shorter : (text : List ℕ) → length (past_space text) ≤ length text
shorter [] = omega arith
shorter (c ∷ text) = elim (is_space c) as (λ b. length (cond b (past_space text) (c ∷ text)) ≤ length (c ∷ text)) [
  | true ↦ omega (arith, shorter text)
  | false ↦ omega arith
]

take_one : (c : ℕ) (text : List ℕ) (n : ℕ) → n ≤ length text → take (length (c ∷ text) - n) (c ∷ text) ≡ c ∷ take (length text - n) text
take_one c text n h =
    let size : length (c ∷ text) - n ≡ suc (length text - n) = omega arith in
    ap (λ k. take k (c ∷ text)) size

-- a byte that isn't at the end of the element
not_at_end : (c : ℕ) (text : List ℕ) → is_end (past_space (c ∷ text)) ≡ false → unquoted false (c ∷ text) ≡ cond (c == backslash) (unquoted true text) (before c (unquoted false text))
not_at_end c text e = ap (λ b. cond b ([], past_space (c ∷ text)) (cond (c == backslash) (unquoted true text) (before c (unquoted false text)))) e

one_space : (c : ℕ) (text : List ℕ) → is_space c ≡ true → is_end (past_space (c ∷ text)) ≡ false → unquoted false (c ∷ text) ≡ before c (unquoted false text)
one_space c text s e = not_at_end c text e ∙ ap (λ b. cond b (unquoted true text) (before c (unquoted false text))) (space_is_plain c s)

-- white space with something behind it belongs to the element
pub past_spaces : (text : List ℕ) → is_end (past_space text) ≡ false → unquoted false text ≡ behind (take (length text - length (past_space text)) text) (unquoted false (past_space text))
past_spaces [] e = refl
past_spaces (c ∷ text) e = elim (is_space c) as (λ b. is_space c ≡ b → unquoted false (c ∷ text) ≡ behind (take (length (c ∷ text) - length (past_space (c ∷ text))) (c ∷ text)) (unquoted false (past_space (c ∷ text)))) [
  | true ↦ λ s.
      let same : past_space (c ∷ text) ≡ past_space text = ap (λ b. cond b (past_space text) (c ∷ text)) s in
      one_space c text s e
      ∙ ap (before c) (past_spaces text (ap is_end (sym same) ∙ e))
      ∙ ap (λ l. behind l (unquoted false (past_space text))) (sym (take_one c text (length (past_space text)) (shorter text)))
      ∙ ap (λ l. behind (take (length (c ∷ text) - length l) (c ∷ text)) (unquoted false l)) (sym same)
  | false ↦ λ s.
      let same : past_space (c ∷ text) ≡ c ∷ text = ap (λ b. cond b (past_space text) (c ∷ text)) s in
      let size : length (c ∷ text) - length (c ∷ text) ≡ 0 = omega arith in
      let none : take (length (c ∷ text) - length (c ∷ text)) (c ∷ text) ≡ [] = ap (λ k. take k (c ∷ text)) size in
      ap (λ l. behind l (unquoted false (c ∷ text))) (sym none)
      ∙ ap (λ l. behind (take (length (c ∷ text) - length l) (c ∷ text)) (unquoted false l)) (sym same)
] refl

plain_one : (text : List ℕ) → unquoted true text ≡ behind (plain text).0 (unquoted false (plain text).1)
plain_one [] = refl
plain_one (c ∷ text) = refl

-- the first character of what isn't at its end
pub first_character : (text : List ℕ) → is_end (past_space text) ≡ false → unquoted false text ≡ behind (character text).0 (unquoted false (character text).1)
first_character [] e = refl
first_character (c ∷ text) e = not_at_end c text e ∙ elim (c == backslash) as (λ b. cond b (unquoted true text) (before c (unquoted false text)) ≡ behind (cond b (plain text) (c ∷ [], text)).0 (unquoted false (cond b (plain text) (c ∷ [], text)).1)) [
  | true ↦ plain_one text
  | false ↦ refl
]

settled : (text : List ℕ) → past_space (past_space text) ≡ past_space text
settled [] = refl
settled (c ∷ text) = elim (is_space c) as (λ b. is_space c ≡ b → past_space (cond b (past_space text) (c ∷ text)) ≡ cond b (past_space text) (c ∷ text)) [
  | true ↦ λ s. settled text
  | false ↦ λ s. ap (λ b. cond b (past_space text) (c ∷ text)) s
] refl

at_end : (text : List ℕ) → is_end (past_space text) ≡ true → unquoted false text ≡ ([], past_space text)
at_end [] e = refl
at_end (c ∷ text) e = ap (λ b. cond b ([], past_space (c ∷ text)) (cond (c == backslash) (unquoted true text) (before c (unquoted false text)))) e

-- the bytes so far are all
pub stopped : (bytes text word : List ℕ) → word ≡ past_space text → is_end word ≡ true → behind bytes (unquoted false text) ≡ (bytes, word)
stopped bytes text word e h =
    ap (behind bytes) (at_end text (ap is_end (sym e) ∙ h))
    ∙ ap (λ l. (l, past_space text)) (append-nil bytes)
    ∙ ap (λ l. (bytes, l)) (sym e)

-- white space and one character more
pub continued : (bytes text word byte rest : List ℕ) → word ≡ past_space text → is_end word ≡ false → (byte, rest) ≡ character word → behind bytes (unquoted false text) ≡ behind ((bytes ++ take (length text - length word) text) ++ byte) (unquoted false rest)
continued bytes text word byte rest e h f =
    let on : is_end (past_space text) ≡ false = ap is_end (sym e) ∙ h in
    let again : is_end (past_space word) ≡ false = ap (λ l. is_end (past_space l)) e ∙ ap is_end (settled text) ∙ on in
    let space : List ℕ = take (length text - length word) text in
    ap (behind bytes) (past_spaces text on)
    ∙ ap (λ w. behind bytes (behind (take (length text - length w) text) (unquoted false w))) (sym e)
    ∙ two_more bytes space (unquoted false word)
    ∙ ap (behind (bytes ++ space)) (first_character word again ∙ ap (λ p. behind p.0 (unquoted false p.1)) (sym f))
    ∙ two_more (bytes ++ space) byte (unquoted false rest)

-- an element that isn't empty
pub some_bytes : (bytes rest : List ℕ) → 0 < length bytes → not_empty (bytes, rest) ≡ Ok (Some bytes, rest)
some_bytes [] rest h = absurd (omega arith)
some_bytes (c ∷ bytes) rest h = refl
