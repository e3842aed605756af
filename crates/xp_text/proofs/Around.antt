-- Occurrences of texts in texts, by their bytes and by their characters.
use Rattle.std.proofs.Common.{◌≡◌, ℕ, ◌+◌, ◌-◌, ◌<◌, ◌≤◌, Bool, true, false, List, [], ◌∷◌, ◌++◌, refl, ap, sym, ◌∙◌, arith, drop, take, length, Option, Some, None, append_assoc, subst, zero, suc, get_or}
use Rattle.std.proofs.lemmas.List.{take-append-drop, drop_at, take-append-le, length-append, length-drop, get_or-drop}
use Rattle.std.proofs.lemmas.Str.{encodes-append, encodes-chars, chars-append, length-le-encodes, IsCharBoundary-start, IsUtf8-nil, IsUtf8-take}
use Rattle.std.specs.Str.{chars, encode_utf8_all, IsUtf8}
use Rattle.std.specs.Str.Pattern.{FindsText, LacksTextAt, SplitsAroundMatch}
use Rattle.xp_characters.specs.Search.{begins, first_at}
use Rattle.xp_characters.proofs.FirstAt.{begins_with, first_found, first_none, rest_behind}

false_unless : (b : Bool) → (b ≡ true → ⊥) → b ≡ false
false_unless true wrong = absurd (wrong refl)
false_unless false wrong = refl

-- the bytes of some characters, and those behind them
bytes_in_two : (cs : List ℕ) (k : ℕ) → encode_utf8_all cs ≡ encode_utf8_all (take k cs) ++ encode_utf8_all (drop k cs)
bytes_in_two cs k = ap encode_utf8_all (sym (take-append-drop k cs)) ∙ encodes-append (take k cs) (drop k cs)

-- where characters stand behind others, so do their bytes
stands_there : (cs ns : List ℕ) (k : ℕ) → (rest : List ℕ) × (drop k cs ≡ ns ++ rest) → (rest : List ℕ) × (drop (length (encode_utf8_all (take k cs))) (encode_utf8_all cs) ≡ encode_utf8_all ns ++ rest)
stands_there cs ns k (rest, e) = (
  encode_utf8_all rest,
  ap (drop (length (encode_utf8_all (take k cs)))) (bytes_in_two cs k)
      ∙ drop_at (encode_utf8_all (take k cs)) (encode_utf8_all (drop k cs)) (length (encode_utf8_all (take k cs))) refl
      ∙ ap encode_utf8_all e ∙ encodes-append ns rest,
)

lacks : (s n : List ℕ) (i : ℕ) → LacksTextAt n s i → (rest : List ℕ) × (drop i s ≡ n ++ rest) → ⊥
lacks s n i absent (rest, e) = absent rest e

-- no occurrence of the bytes at the start of a character is none of the characters
begins_nowhere : (s n : List ℕ) (k : ℕ) → IsUtf8 s → IsUtf8 n → LacksTextAt n s (length (encode_utf8_all (take k (chars s)))) → begins (drop k (chars s)) (chars n) ≡ false
begins_nowhere s n k us un absent = false_unless (begins (drop k (chars s)) (chars n)) there
  where
    place : ℕ
    place = length (encode_utf8_all (take k (chars s)))

    moved : (rest : List ℕ) × (drop (length (encode_utf8_all (take k (chars s)))) (encode_utf8_all (chars s)) ≡ encode_utf8_all (chars n) ++ rest) → (rest : List ℕ) × (drop (length (encode_utf8_all (take k (chars s)))) s ≡ n ++ rest)
    moved (rest, e) = (rest, ap (drop (length (encode_utf8_all (take k (chars s))))) (sym (encodes-chars s us)) ∙ e ∙ ap (λ l. l ++ rest) (encodes-chars n un))

    there : begins (drop k (chars s)) (chars n) ≡ true → ⊥
    there b = lacks s n (length (encode_utf8_all (take k (chars s)))) absent (moved (stands_there (chars s) (chars n) k (rest_behind (drop k (chars s)) (chars n) b)))

-- a part of the characters has no more bytes than all
part_size : (cs : List ℕ) (k : ℕ) → length (encode_utf8_all (take k cs)) ≤ length (encode_utf8_all cs)
part_size cs k = omega (arith, ap length (bytes_in_two cs k), length-append (encode_utf8_all (take k cs)) (encode_utf8_all (drop k cs)))

-- and fewer, where characters are left
part_smaller : (cs : List ℕ) (k : ℕ) → k < length cs → length (encode_utf8_all (take k cs)) < length (encode_utf8_all cs)
part_smaller cs k h = omega (arith, ap length (bytes_in_two cs k), length-append (encode_utf8_all (take k cs)) (encode_utf8_all (drop k cs)), length-le-encodes (drop k cs), length-drop k cs)

pub found_nowhere : (s n : List ℕ) → IsUtf8 s → IsUtf8 n → FindsText n s None → first_at (chars s) (chars n) ≡ None
found_nowhere s n us un absent = first_none (chars s) (chars n) (λ k h. begins_nowhere s n k us un (absent (length (encode_utf8_all (take k (chars s)))) (small k)))
  where
    small : (k : ℕ) → length (encode_utf8_all (take k (chars s))) ≤ length s
    small k = subst (λ l. length (encode_utf8_all (take k (chars s))) ≤ length l) (encodes-chars s us) (part_size (chars s) k)

-- the parts around an occurrence
pub around_bytes : (s n front back : List ℕ) → SplitsAroundMatch (FindsText n) s front back → s ≡ front ++ (n ++ back)
around_bytes s n front back (i, j, at, f, b, h, k, l) =
    sym (take-append-drop i s) ∙ ap (λ l. take i s ++ l) at.1.split ∙ ap (λ l. l ++ (n ++ drop j s)) (sym f) ∙ ap (λ l. front ++ (n ++ l)) (sym b)

pub characters_around : (s n front back : List ℕ) → IsUtf8 front → IsUtf8 n → s ≡ front ++ (n ++ back) → chars s ≡ chars front ++ (chars n ++ chars back)
characters_around s n front back uf un e = ap chars e ∙ chars-append front (n ++ back) uf ∙ ap (λ l. chars front ++ l) (chars-append n back un)

pub found_first : (s n front back : List ℕ) → IsUtf8 s → IsUtf8 n → IsUtf8 front → s ≡ front ++ (n ++ back) → ((i : ℕ) → i < length front → LacksTextAt n s i) → first_at (chars s) (chars n) ≡ Some (length (chars front))
found_first s n front back us un uf e none =
    ap (λ l. first_at l (chars n)) whole
    ∙ first_found (chars front) (chars n ++ chars back) (chars n) (begins_with (chars n) (chars back)) (λ k h. subst (λ l. begins (drop k l) (chars n) ≡ false) whole (begins_nowhere s n k us un (none (length (encode_utf8_all (take k (chars s)))) (before k h))))
  where
    whole : chars s ≡ chars front ++ (chars n ++ chars back)
    whole = characters_around s n front back uf un e

    same_part : (k : ℕ) → k < length (chars front) → take k (chars s) ≡ take k (chars front)
    same_part k h = ap (take k) whole ∙ take-append-le k (chars front) (chars n ++ chars back) (omega arith)

    before : (k : ℕ) → k < length (chars front) → length (encode_utf8_all (take k (chars s))) < length front
    before k h = omega (arith, ap (λ l. length (encode_utf8_all l)) (same_part k h), part_smaller (chars front) k h, ap length (encodes-chars front uf))

-- a text begins at the start of a character
front_text : (s n front : List ℕ) (i j : ℕ) → IsUtf8 s → IsUtf8 n → FindsText n s (Some (i, j)) → i ≤ length s → front ≡ take i s → IsUtf8 front
front_text s [] front zero j us un at h f = subst IsUtf8 (sym f) IsUtf8-nil
front_text s [] front (suc i) j us un at h f = absurd (at.0 0 (omega arith) s refl)
front_text s (c ∷ n) front i j us un at h f = subst IsUtf8 (sym f) (IsUtf8-take s i us (h, lead))
  where
    first : get_or s i 0 ≡ c
    first = ap (λ k. get_or s k 0) (omega arith) ∙ sym (get_or-drop i s 0 0) ∙ ap (λ l. get_or l 0 0) at.1.split

    lead : i < length s → 128 ≤ get_or s i 0 → 192 ≤ get_or s i 0
    lead below big = omega (arith, first, (IsCharBoundary-start (c ∷ n) un).1 (omega arith) (omega (arith, first, big)))

pub around_text : (s n front back : List ℕ) → IsUtf8 s → IsUtf8 n → SplitsAroundMatch (FindsText n) s front back → IsUtf8 front
around_text s n front back us un (i, j, at, f, b, h, k, l) = front_text s n front i j us un at (omega arith) f

pub around_characters : (s n front back : List ℕ) → IsUtf8 s → IsUtf8 n → SplitsAroundMatch (FindsText n) s front back → chars s ≡ chars front ++ (chars n ++ chars back)
around_characters s n front back us un at = characters_around s n front back (around_text s n front back us un at) un (around_bytes s n front back at)

pub around_place : (s n front back : List ℕ) → IsUtf8 s → IsUtf8 n → SplitsAroundMatch (FindsText n) s front back → first_at (chars s) (chars n) ≡ Some (length (chars front))
around_place s n front back us un (i, j, at, f, b, h, k, l) =
    found_first s n front back us un (front_text s n front i j us un at (omega arith) f) (around_bytes s n front back (i, j, at, f, b, h, k, l)) (λ m below. at.0 m (omega arith))
