-- Characters of texts that are joined or taken apart.
use Rattle.std.proofs.Common.{◌≡◌, ℕ, ◌+◌, ◌-◌, ◌<◌, ◌≤◌, List, [], ◌∷◌, ◌++◌, length, take, drop, refl, sym, ◌∙◌, ap, subst, arith, reverse, true, Bool}
use Rattle.std.proofs.lemmas.List.{take_at, drop_at, length-append, append-nil, take-append-drop, append_cancel_right, append_cancel_left, append_assoc, reverse-append, length-drop, drop-drop, drop_all, length-take-le}
use Rattle.std.proofs.lemmas.Str.{IsUtf8-drop, IsUtf8-append, IsCharBoundary-from_take, IsCharBoundary-at_seam, chars_past_char, chars-append, chars-nil, encodes-chars, encodes-append, scalars-chars, chars-encodes}
use Rattle.std.specs.Char.{encode_utf8}
use Rattle.std.specs.Str.{chars, encode_utf8_all, IsUtf8, IsCharBoundary}
use Rattle.xp_characters.specs.Characters.{over}

-- what stands behind a text in a text is a text
pub behind_text : (xs ys : List ℕ) → IsUtf8 (xs ++ ys) → IsUtf8 xs → IsUtf8 ys
behind_text xs ys u ux =
    let here : IsUtf8 (take (length xs) (xs ++ ys)) = subst IsUtf8 (sym (take_at xs ys (length xs) refl)) ux in
    let within : length xs ≤ length (xs ++ ys) = simp length-append (omega arith) in
    let edge = IsCharBoundary-from_take (xs ++ ys) (length xs) u within here in
    subst IsUtf8 (drop_at xs ys (length xs) refl) (IsUtf8-drop (xs ++ ys) (length xs) u edge)

pub chars_of_one : (c : ℕ) → IsUtf8 (encode_utf8 c) → chars (encode_utf8 c) ≡ c ∷ []
chars_of_one c u = chars_past_char (encode_utf8 c) [] c u (sym (append-nil (encode_utf8 c))) ∙ ap (λ l. c ∷ l) chars-nil

-- a text with one character more
pub chars_with_last : (bs xs : List ℕ) (c : ℕ) → IsUtf8 bs → IsUtf8 xs → bs ≡ xs ++ encode_utf8 c → chars bs ≡ chars xs ++ c ∷ []
chars_with_last bs xs c u ux e =
    let whole : IsUtf8 (xs ++ encode_utf8 c) = subst IsUtf8 e u in
    ap chars e ∙ chars-append xs (encode_utf8 c) ux ∙ ap (λ l. chars xs ++ l) (chars_of_one c (behind_text xs (encode_utf8 c) whole ux))

-- what is left of a list behind some elements and one more
pub drop_one_more : (xs rest : List ℕ) (n c : ℕ) → drop n xs ≡ c ∷ rest → rest ≡ drop (n + 1) xs
drop_one_more xs rest n c e = sym (sym (drop-drop 1 n xs) ∙ ap (λ l. drop 1 l) e)

-- where a list is empty behind some elements, it is so behind more
pub drop_past : (xs : List ℕ) (n m : ℕ) → n ≤ m → drop n xs ≡ [] → drop m xs ≡ []
drop_past xs n m h e =
    let parts : n + (m - n) ≡ m = omega arith in
    ap (λ k. drop k xs) (sym parts) ∙ sym (drop-drop (m - n) n xs) ∙ ap (λ l. drop (m - n) l) e ∙ drop_all (m - n) [] (omega arith)

-- the end of a text, cut by its length
pub ends_behind : (text xs rest : List ℕ) → text ≡ xs ++ rest → text ≡ take (length text - length rest) text ++ rest
ends_behind text xs rest e =
    let size : length xs ≡ length (xs ++ rest) - length rest = simp length-append (omega arith) in
    let cut : take (length (xs ++ rest) - length rest) (xs ++ rest) ≡ xs = take_at xs rest (length (xs ++ rest) - length rest) size in
    let P : List ℕ → Type 0 = λ t. t ≡ take (length t - length rest) t ++ rest in
    subst P (sym e) (ap (λ l. l ++ rest) (sym cut))

-- the same, one character later
pub ends_later : (text back rest : List ℕ) (c : ℕ) → text ≡ take (length text - length back) text ++ back → back ≡ encode_utf8 c ++ rest → text ≡ take (length text - length rest) text ++ rest
ends_later text back rest c e f =
    let front = take (length text - length back) text in
    ends_behind text (front ++ encode_utf8 c) rest (e ∙ ap (λ l. front ++ l) f ∙ sym (append_assoc front (encode_utf8 c) rest))

-- a text is cut before what it ends in
pub edge_before : (text back : List ℕ) → IsUtf8 back → text ≡ take (length text - length back) text ++ back → length back ≤ length text → IsCharBoundary text (length text - length back)
edge_before text back u e h =
    let size : length (take (length text - length back) text) ≡ length text - length back = length-take-le (length text - length back) text (omega arith) in
    subst (λ n. IsCharBoundary text n) size (IsCharBoundary-at_seam text (take (length text - length back) text) back e u)

-- a text that ends in another, cut there
pub front_characters : (text front back : List ℕ) (n : ℕ) → IsUtf8 front → text ≡ front ++ back → chars back ≡ drop n (chars text) → chars front ≡ take n (chars text)
front_characters text front back n u e tail =
    let whole : chars text ≡ chars front ++ chars back = ap chars e ∙ chars-append front back u in
    append_cancel_right (chars front) (take n (chars text)) (drop n (chars text))
    (ap (λ l. chars front ++ l) (sym tail) ∙ sym whole ∙ sym (take-append-drop n (chars text)))
