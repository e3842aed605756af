-- A fill that is repeated and cut: whole copies of it, and a part of one.
use Rattle.std.proofs.Common.{◌≡◌, ℕ, zero, suc, ◌+◌, ◌-◌, ◌*◌, ◌/◌, ◌%◌, ◌<◌, ◌≤◌, List, [], ◌∷◌, ◌++◌, refl, ap, sym, ◌∙◌, arith, take, length, append_assoc}
use Rattle.std.proofs.lemmas.List.{length-append, take-append-le, take_all}
use Rattle.std.proofs.lemmas.Str.{encodes-append, encodes-chars}
use Rattle.std.specs.Str.{chars, encode_utf8_all, IsUtf8}
use Rattle.xp_text.specs.Made.{repeated}
use Rattle.xp_text.specs.Parts.{lpad, padding, rpad}
use Rattle.xp_text.proofs.Copies.{copies_of_nothing, length_copies, length-repeated, repeated_more}

take_behind : (xs ys : List ℕ) (k : ℕ) → take (length xs + k) (xs ++ ys) ≡ xs ++ take k ys
take_behind [] ys k =
    let size : 0 + k ≡ k = omega arith in
    ap (λ n. take n ys) size
take_behind (x ∷ xs) ys k =
    let size : suc (length xs) + k ≡ suc (length xs + k) = omega arith in
    ap (λ n. take n (x ∷ (xs ++ ys))) size ∙ ap (λ l. x ∷ l) (take_behind xs ys k)

-- so many whole copies, and a part of one more
take_copies : (q m r : ℕ) (xs : List ℕ) → q < m → r ≤ length xs → take (q * length xs + r) (repeated m xs) ≡ repeated q xs ++ take r xs
take_copies q zero r xs h k = absurd (omega arith)
take_copies zero (suc m) r xs h k =
    let size : 0 * length xs + r ≡ r = grind arith in
    ap (λ n. take n (xs ++ repeated m xs)) size ∙ take-append-le r xs (repeated m xs) k
take_copies (suc q) (suc m) r xs h k =
    let size : suc q * length xs + r ≡ length xs + (q * length xs + r) = grind arith in
    ap (λ n. take n (xs ++ repeated m xs)) size
    ∙ take_behind xs (repeated m xs) (q * length xs + r)
    ∙ ap (λ l. xs ++ l) (take_copies q m r xs (omega arith) k)
    ∙ sym (append_assoc xs (repeated q xs) (take r xs))

-- one copy more makes no difference to what is cut before it
cut_before : (n : ℕ) (xs : List ℕ) → 0 < length xs → take n (repeated n xs) ≡ take n (repeated (suc n) xs)
cut_before n xs h =
    let enough : n ≤ length (repeated n xs) = omega (arith, length-repeated n xs, grows n (length xs) h) in
    sym (take-append-le n (repeated n xs) xs enough) ∙ ap (take n) (repeated_more n xs)
  where
    grows : (a b : ℕ) → 0 < b → a ≤ a * b
    grows a b k = grind arith

pub padding_parts : (xs : List ℕ) (n q r : ℕ) → 0 < length xs → n ≡ q * length xs + r → r < length xs → padding xs n ≡ repeated q xs ++ take r xs
padding_parts xs n q r h e k =
    cut_before n xs h
    ∙ ap (λ i. take i (repeated (suc n) xs)) e
    ∙ take_copies q (suc n) r xs (few n q (length xs) r h e) (omega arith)
  where
    few : (a b s t : ℕ) → 0 < s → a ≡ b * s + t → b < suc a
    few a b s t i f = grind arith

pub padding_of_nothing : (n : ℕ) (xs : List ℕ) → length xs ≡ 0 → padding xs n ≡ []
padding_of_nothing n xs e = ap (take n) (copies_of_nothing n xs e) ∙ take_all n [] (omega arith)

pub encodes_repeated : (n : ℕ) (cs : List ℕ) → encode_utf8_all (repeated n cs) ≡ repeated n (encode_utf8_all cs)
encodes_repeated zero cs = refl
encodes_repeated (suc n) cs = encodes-append cs (repeated n cs) ∙ ap (λ l. encode_utf8_all cs ++ l) (encodes_repeated n cs)

-- the bytes of a padding
pub padding_bytes : (fill part : List ℕ) (n q r size : ℕ) → IsUtf8 fill → size ≡ length (chars fill) → 0 < size → n ≡ q * size + r → r < size → part ≡ encode_utf8_all (take r (chars fill)) → encode_utf8_all (padding (chars fill) n) ≡ repeated q fill ++ part
padding_bytes fill part n q r size u s h e k f =
    ap encode_utf8_all (padding_parts (chars fill) n q r (omega (arith, s, h)) (e ∙ ap (λ l. q * l + r) s) (omega (arith, s, k)))
    ∙ encodes-append (repeated q (chars fill)) (take r (chars fill))
    ∙ ap (λ l. l ++ encode_utf8_all (take r (chars fill))) (encodes_repeated q (chars fill) ∙ ap (repeated q) (encodes-chars fill u))
    ∙ ap (λ l. repeated q fill ++ l) (sym f)

-- the bytes of a text with padding
pub lpad_bytes : (cs fill front pad : List ℕ) (n : ℕ) → front ≡ encode_utf8_all (take n cs) → encode_utf8_all (padding fill (n - length cs)) ≡ pad → encode_utf8_all (lpad cs n fill) ≡ pad ++ front
lpad_bytes cs fill front pad n e f =
    encodes-append (padding fill (n - length cs)) (take n cs)
    ∙ ap (λ l. l ++ encode_utf8_all (take n cs)) f
    ∙ ap (λ l. pad ++ l) (sym e)

pub rpad_bytes : (cs fill front pad : List ℕ) (n : ℕ) → front ≡ encode_utf8_all (take n cs) → encode_utf8_all (padding fill (n - length cs)) ≡ pad → encode_utf8_all (rpad cs n fill) ≡ front ++ pad
rpad_bytes cs fill front pad n e f =
    encodes-append (take n cs) (padding fill (n - length cs))
    ∙ ap (λ l. encode_utf8_all (take n cs) ++ l) f
    ∙ ap (λ l. l ++ pad) (sym e)

-- the size of copies and a part
pub filled_size : (fill part : List ℕ) (n : ℕ) → length (repeated n fill ++ part) ≡ length fill * n + length part
filled_size fill part n = length-append (repeated n fill) part ∙ ap (λ k. k + length part) (length_copies n fill)
