-- Rows by name and by place, family by family.
use Rattle.std.proofs.Common.{◌≡◌, ℕ, ◌+◌, ◌-◌, ◌<◌, ◌≤◌, List, ◌++◌, Bool, Option, Some, None, length, length-append, map, drop, get_or, refl, sym, ap, ◌∙◌, arith, add-one, drop-cons}
use denote.Ref.{Bor}
use Rattle.std.specs.List.{position, position_from, slice_get}
use Rattle.std.specs.Option.{option_map}
use Rattle.std.specs.Str.{bytes_eq}
use Rattle.std.proofs.lemmas.List.{length-map}
use Rattle.std.proofs.lemmas.Option.{slice_get-get_or, slice_get-map}
use Rattle.xp_bodies.specs.declared.table.BodySig.{BodySig}
use Rattle.xp_bodies.specs.Row.{Row, row_of, rows_of}
use Rattle.xp_bodies.proofs.Families.{or_else, position_from-append, position_from-map, slice_get-front, slice_get-behind}

abbrev pub has_name : List ℕ → Row → Bool
has_name name row = bytes_eq row.name name

-- the rows of the families from the i-th on
pub rows_of-rest : (fs : List (Bor (List BodySig))) (i : ℕ) (d : Bor (List BodySig)) → i < length fs → rows_of (drop i fs) ≡ map row_of (get_or fs i d).now ++ rows_of (drop (i + 1) fs)
rows_of-rest fs i d h = rw (add-one, drop-cons fs i d) refl

split_at : (name : List ℕ) (fs : List (Bor (List BodySig))) (i : ℕ) (d : Bor (List BodySig)) (n : ℕ) → i < length fs
    → position_from (has_name name) n (rows_of (drop i fs))
    ≡ or_else (option_map (λ k. n + k) (position (λ row. has_name name (row_of row)) (get_or fs i d).now)) (position_from (has_name name) (n + length (map row_of (get_or fs i d).now)) (rows_of (drop (i + 1) fs)))
split_at name fs i d n h =
    ap (λ (rows : List Row). position_from (has_name name) n rows) (rows_of-rest fs i d h)
    ∙ position_from-append (has_name name) n (map row_of (get_or fs i d).now) (rows_of (drop (i + 1) fs))
    ∙ ap (λ (o : Option ℕ). or_else o (position_from (has_name name) (n + length (map row_of (get_or fs i d).now)) (rows_of (drop (i + 1) fs)))) (position_from-map row_of (has_name name) n (get_or fs i d).now)

-- the name stands in the i-th family
pub place-found : (name : List ℕ) (fs : List (Bor (List BodySig))) (i : ℕ) (d : Bor (List BodySig)) (n place : ℕ) → i < length fs
    → Some place ≡ position (λ row. bytes_eq row.name.now name) (get_or fs i d).now → position_from (has_name name) n (rows_of (drop i fs)) ≡ Some (n + place)
place-found name fs i d n place h e =
    split_at name fs i d n h
    ∙ ap (λ (o : Option ℕ). or_else (option_map (λ k. n + k) o) (position_from (has_name name) (n + length (map row_of (get_or fs i d).now)) (rows_of (drop (i + 1) fs)))) (sym e)

-- the name doesn't stand in the i-th family
pub place-passed : (name : List ℕ) (fs : List (Bor (List BodySig))) (i : ℕ) (d : Bor (List BodySig)) (n : ℕ) → i < length fs
    → None ≡ position (λ row. bytes_eq row.name.now name) (get_or fs i d).now
    → position_from (has_name name) n (rows_of (drop i fs)) ≡ position_from (has_name name) (n + length (get_or fs i d).now) (rows_of (drop (i + 1) fs))
place-passed name fs i d n h e =
    let same : n + length (map row_of (get_or fs i d).now) ≡ n + length (get_or fs i d).now = rw length-map refl in
    split_at name fs i d n h
    ∙ ap (λ (o : Option ℕ). or_else (option_map (λ k. n + k) o) (position_from (has_name name) (n + length (map row_of (get_or fs i d).now)) (rows_of (drop (i + 1) fs)))) (sym e)
    ∙ ap (λ (k : ℕ). position_from (has_name name) k (rows_of (drop (i + 1) fs))) same

-- how many rows are left behind the i-th family
pub count-passed : (fs : List (Bor (List BodySig))) (i : ℕ) (d : Bor (List BodySig)) → i < length fs → length (rows_of (drop i fs)) ≡ length (get_or fs i d).now + length (rows_of (drop (i + 1) fs))
count-passed fs i d h = rw (rows_of-rest fs i d h, length-append, length-map) refl

-- the place is in the i-th family
pub row-found : (fs : List (Bor (List BodySig))) (i : ℕ) (d : Bor (List BodySig)) (left : ℕ) (e : BodySig) → i < length fs → left < length (get_or fs i d).now
    → slice_get (rows_of (drop i fs)) left ≡ Some (row_of (get_or (get_or fs i d).now left e))
row-found fs i d left e h k =
    let within : left < length (map row_of (get_or fs i d).now) = rw length-map k in
    ap (λ (rows : List Row). slice_get rows left) (rows_of-rest fs i d h)
    ∙ slice_get-front (map row_of (get_or fs i d).now) (rows_of (drop (i + 1) fs)) left within
    ∙ slice_get-map row_of (get_or fs i d).now left
    ∙ ap (λ (o : Option BodySig). option_map row_of o) (slice_get-get_or (get_or fs i d).now left e k)

-- the place is behind the i-th family
pub row-passed : (fs : List (Bor (List BodySig))) (i : ℕ) (d : Bor (List BodySig)) (left : ℕ) → i < length fs → length (get_or fs i d).now ≤ left
    → slice_get (rows_of (drop i fs)) left ≡ slice_get (rows_of (drop (i + 1) fs)) (left - length (get_or fs i d).now)
row-passed fs i d left h k =
    let cut : left ≡ length (get_or fs i d).now + (left - length (get_or fs i d).now) = omega arith in
    let at : left ≡ length (map row_of (get_or fs i d).now) + (left - length (get_or fs i d).now) = rw length-map cut in
    ap (λ (rows : List Row). slice_get rows left) (rows_of-rest fs i d h)
    ∙ slice_get-behind (map row_of (get_or fs i d).now) (rows_of (drop (i + 1) fs)) left (left - length (get_or fs i d).now) at
