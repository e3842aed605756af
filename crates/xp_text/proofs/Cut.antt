-- The fields of a list, one after another.
use Rattle.std.proofs.Common.{◌≡◌, ℕ, zero, suc, ◌+◌, ◌-◌, ◌<◌, ◌≤◌, Bool, true, false, List, [], ◌∷◌, ◌++◌, refl, ap, sym, ◌∙◌, arith, cond, drop, take, length, Option, Some, None, append_assoc, subst, get_or}
use Rattle.std.proofs.lemmas.List.{drop_at, length-append, nil_from_length}
use Rattle.std.proofs.lemmas.Str.{chars-nil, encodes-append, encodes-chars}
use Rattle.std.specs.Str.{chars, encode_utf8_all, IsUtf8}
use Rattle.std.specs.Option.{option_map}
use Rattle.xp_characters.specs.Search.{begins, first_at}
use Rattle.xp_text.specs.Fields.{fields, fields_from, in_first, joined, replace}

-- elements of a delimiter that are still to come are no field's
pub rest_of_delimiter : (d : List ℕ) (n : ℕ) (xs : List ℕ) → fields_from d n xs ≡ fields_from d 0 (drop n xs)
rest_of_delimiter d zero xs = refl
rest_of_delimiter d (suc n) [] = refl
rest_of_delimiter d (suc n) (x ∷ xs) = rest_of_delimiter d n xs

add_some : (o : Option ℕ) → option_map (λ k. k + 1) o ≡ None → o ≡ None
add_some None e = refl
add_some (Some k) e = cc

none_here : (b : Bool) (o : Option ℕ) → cond b (Some 0) (option_map (λ k. k + 1) o) ≡ None → (b ≡ false) × (o ≡ None)
none_here true o e = cc
none_here false o e = (refl, add_some o e)

pub one_field : (d xs : List ℕ) → first_at xs d ≡ None → fields_from d 0 xs ≡ xs ∷ []
one_field d [] e = refl
one_field d (x ∷ xs) e =
    let none = none_here (begins (x ∷ xs) d) (first_at xs d) e in
    ap (λ b. cond b ([] ∷ fields_from d (length d - 1) xs) (in_first x (fields_from d 0 xs))) none.0
    ∙ ap (in_first x) (one_field d xs none.1)

later_here : (b : Bool) (o : Option ℕ) (n : ℕ) → cond b (Some 0) (option_map (λ k. k + 1) o) ≡ Some (suc n) → (b ≡ false) × (o ≡ Some n)
later_here true o n e = cc
later_here false None n e = cc
later_here false (Some k) n e =
    let same : k + 1 ≡ suc n = cc in
    let less : k ≡ n = omega (arith, same) in
    (refl, ap Some less)

at_once : (b : Bool) (o : Option ℕ) → cond b (Some 0) (option_map (λ k. k + 1) o) ≡ Some 0 → b ≡ true
at_once true o e = refl
at_once false None e = cc
at_once false (Some k) e =
    let same : k + 1 ≡ 0 = cc in
    absurd (omega (arith, same))

-- the first field stands before the first delimiter
pub field_before : (c : ℕ) (d front back xs : List ℕ) → xs ≡ front ++ ((c ∷ d) ++ back) → first_at xs (c ∷ d) ≡ Some (length front) → fields_from (c ∷ d) 0 xs ≡ front ∷ fields_from (c ∷ d) 0 back
field_before c d [] back [] e f = cc
field_before c d [] back (x ∷ xs) e f =
    let tail : xs ≡ d ++ back = cc in
    let one : suc (length d) - 1 ≡ length d = omega arith in
    ap (λ b. cond b ([] ∷ fields_from (c ∷ d) (suc (length d) - 1) xs) (in_first x (fields_from (c ∷ d) 0 xs))) (at_once (begins (x ∷ xs) (c ∷ d)) (first_at xs (c ∷ d)) f)
    ∙ ap (λ l. [] ∷ l) (ap (λ n. fields_from (c ∷ d) n xs) one ∙ rest_of_delimiter (c ∷ d) (length d) xs ∙ ap (fields_from (c ∷ d) 0) (ap (drop (length d)) tail ∙ drop_at d back (length d) refl))
field_before c d (y ∷ front) back [] e f = cc
field_before c d (y ∷ front) back (x ∷ xs) e f =
    let tail : xs ≡ front ++ ((c ∷ d) ++ back) = cc in
    let head : x ≡ y = cc in
    let none = later_here (begins (x ∷ xs) (c ∷ d)) (first_at xs (c ∷ d)) (length front) f in
    ap (λ b. cond b ([] ∷ fields_from (c ∷ d) (suc (length d) - 1) xs) (in_first x (fields_from (c ∷ d) 0 xs))) none.0
    ∙ ap (in_first x) (field_before c d front back xs tail none.1)
    ∙ ap (λ z. (z ∷ front) ∷ fields_from (c ∷ d) 0 back) head

-- there is a field
pub some_field : (d : List ℕ) (n : ℕ) (xs : List ℕ) → 0 < length (fields_from d n xs)
some_field d n [] = omega arith
some_field d (suc n) (x ∷ xs) = some_field d n xs
some_field d zero (x ∷ xs) = by_case (begins (x ∷ xs) d)
  where
    in_first_some : (fs : List (List ℕ)) → 0 < length (in_first x fs)
    in_first_some [] = omega arith
    in_first_some (f ∷ fs) = omega arith

    by_case : (b : Bool) → 0 < length (cond b ([] ∷ fields_from d (length d - 1) xs) (in_first x (fields_from d zero xs)))
    by_case true = omega arith
    by_case false = in_first_some (fields_from d zero xs)

pub undivided : (d xs : List ℕ) → first_at xs d ≡ None → fields d xs ≡ xs ∷ []
undivided [] xs e = refl
undivided (c ∷ d) xs e = one_field (c ∷ d) xs e

pub divided : (d xs front back : List ℕ) → 0 < length d → xs ≡ front ++ (d ++ back) → first_at xs d ≡ Some (length front) → fields d xs ≡ front ∷ fields d back
divided [] xs front back h e f = absurd (omega arith)
divided (c ∷ d) xs front back h e f = field_before c d front back xs e f

-- a delimiter without bytes divides nothing
pub without_delimiter : (bytes xs : List ℕ) → length bytes ≡ 0 → fields (chars bytes) xs ≡ xs ∷ []
without_delimiter bytes xs e = ap (λ d. fields d xs) (ap chars (nil_from_length bytes e) ∙ chars-nil)

-- one that has bytes has characters
pub some_characters : (bytes : List ℕ) → IsUtf8 bytes → 0 < length bytes → 0 < length (chars bytes)
some_characters bytes u h = by_case (chars bytes) (encodes-chars bytes u)
  where
    by_case : (cs : List ℕ) → encode_utf8_all cs ≡ bytes → 0 < length cs
    by_case [] e = absurd (omega (arith, ap length e))
    by_case (c ∷ cs) e = omega arith

-- there is nothing behind one field
pub past_one : (fs : List (List ℕ)) (x : List ℕ) (n : ℕ) → fs ≡ x ∷ [] → 0 < n → get_or fs n [] ≡ []
past_one fs x zero e h = absurd (omega arith)
past_one fs x (suc n) e h = ap (λ l. get_or l (suc n) []) e

pub some_fields : (d xs : List ℕ) → 0 < length (fields d xs)
some_fields [] xs = omega arith
some_fields (c ∷ d) xs = some_field (c ∷ d) zero xs

joined_more : (new field : List ℕ) (others : List (List ℕ)) → 0 < length others → joined new (field ∷ others) ≡ field ++ new ++ joined new others
joined_more new field [] h = absurd (omega arith)
joined_more new field (other ∷ others) h = refl

-- what is replaced up to the first field's end, and the rest
pub replaced_in_two : (xs field behind old new : List ℕ) → fields old xs ≡ field ∷ fields old behind → encode_utf8_all (replace xs old new) ≡ encode_utf8_all field ++ (encode_utf8_all new ++ encode_utf8_all (replace behind old new))
replaced_in_two xs field behind old new e =
    ap (λ fs. encode_utf8_all (joined new fs)) e
    ∙ ap encode_utf8_all (joined_more new field (fields old behind) (some_fields old behind))
    ∙ encodes-append (field ++ new) (joined new (fields old behind))
    ∙ ap (λ l. l ++ encode_utf8_all (replace behind old new)) (encodes-append field new)
    ∙ append_assoc (encode_utf8_all field) (encode_utf8_all new) (encode_utf8_all (replace behind old new))

pub replaced_nowhere : (xs old new : List ℕ) → fields old xs ≡ xs ∷ [] → encode_utf8_all (replace xs old new) ≡ encode_utf8_all xs
replaced_nowhere xs old new e = ap (λ fs. encode_utf8_all (joined new fs)) e

-- what is written first is no longer than the whole
pub front_size : (whole out piece more : List ℕ) → out ++ (piece ++ more) ≡ whole → length out + length piece ≤ length whole
front_size whole out piece more e = omega (arith, ap length e, length-append out (piece ++ more), length-append piece more)

-- one piece more is written
pub next_piece : (whole out piece more done : List ℕ) → out ++ (piece ++ more) ≡ whole → done ≡ out ++ piece → done ++ more ≡ whole
next_piece whole out piece more done e f = ap (λ l. l ++ more) f ∙ append_assoc out piece more ∙ e
