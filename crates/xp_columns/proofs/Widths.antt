-- Lists of one length, and how long their columns are.
use Rattle.std.proofs.Common.{◌≡◌, ◌<◌, ◌==◌, ◌+◌, ℕ, List, [], ◌∷◌, ◌++◌, length, map, replicate, true, refl, ◌∙◌, arith}
use Rattle.std.proofs.lemmas.Bool.{eqb-true}
use Rattle.std.proofs.lemmas.List.{append_assoc, length-replicate, length_push, map-append}
use Rattle.std.proofs.lemmas.List.Elements.{All-cons, All-head, All-nil, All-replicate, All-tail, All-weaker}
use Rattle.std.proofs.lemmas.List.Sums.{AllPass-from_list_all}
use Rattle.xp_resolve.specs.declared.made.Part.{Part}
use Rattle.xp_columns.specs.Columns.{are_as_long, turned, width_of, with_list, with_lists}
use Rattle.xp_columns.specs.inner.Tables.{AreOfWidth}

abbrev IsOfWidth : ℕ → List Part → Type 0
IsOfWidth width list = length list ≡ width

pub are_even : (lists : List (List Part)) → are_as_long lists ≡ true → AreOfWidth (width_of lists) lists
are_even lists is =
    All-weaker (λ (list : List Part). (length list == width_of lists) ≡ true) (IsOfWidth (width_of lists)) (λ list same. eqb-true (length list) (width_of lists) same) lists
    (AllPass-from_list_all (λ (list : List Part). length list == width_of lists) lists is)

-- ---- lists that become columns

one_count : (columns : List (List Part)) (list : List Part) → length list ≡ length columns → length (with_list columns list) ≡ length columns
one_count [] list same = refl
one_count (column ∷ columns) [] same = absurd (omega arith)
one_count (column ∷ columns) (x ∷ xs) same = let own = one_count columns xs (omega arith) in omega arith

one_longer : (width : ℕ) (columns : List (List Part)) (list : List Part) → AreOfWidth width columns → AreOfWidth (width + 1) (with_list columns list)
one_longer width [] list all = All-nil (IsOfWidth (width + 1))
one_longer width (column ∷ columns) [] all = All-nil (IsOfWidth (width + 1))
one_longer width (column ∷ columns) (x ∷ xs) all =
    let first : length column ≡ width = All-head (IsOfWidth width) column columns all in
    All-cons (IsOfWidth (width + 1)) (column ++ x ∷ []) (with_list columns xs) (omega (arith, length_push column x)) (one_longer width columns xs (All-tail (IsOfWidth width) column columns all))

lists_count : (columns lists : List (List Part)) → AreOfWidth (length columns) lists → length (with_lists columns lists) ≡ length columns
lists_count columns [] all = refl
lists_count columns (list ∷ lists) all =
    let own = one_count columns list (All-head (IsOfWidth (length columns)) list lists all) in
    let rest : AreOfWidth (length (with_list columns list)) lists = rw own (All-tail (IsOfWidth (length columns)) list lists all) in
    lists_count (with_list columns list) lists rest ∙ own

lists_longer : (width : ℕ) (columns lists : List (List Part)) → AreOfWidth width columns → AreOfWidth (width + length lists) (with_lists columns lists)
lists_longer width columns [] all = let e : width + 0 ≡ width = omega arith in rw e all
lists_longer width columns (list ∷ lists) all =
    let e : width + length (list ∷ lists) ≡ (width + 1) + length lists = omega arith in
    rw e (lists_longer (width + 1) (with_list columns list) lists (one_longer width columns list all))

-- so many columns as each list has items
pub turned_count : (width : ℕ) (lists : List (List Part)) → AreOfWidth width lists → length (turned width lists) ≡ width
turned_count width lists all =
    let none = length-replicate width [] in
    let own : AreOfWidth (length (replicate width [])) lists = rw none all in
    lists_count (replicate width []) lists own ∙ none

-- each column has so many items as there are lists
pub turned_widths : (width : ℕ) (lists : List (List Part)) → AreOfWidth (length lists) (turned width lists)
turned_widths width lists =
    let e : 0 + length lists ≡ length lists = omega arith in
    let own : AreOfWidth (0 + length lists) (turned width lists) = lists_longer 0 (replicate width []) lists (All-replicate (IsOfWidth 0) width [] refl) in
    rw e at own

-- ---- columns that keep their lengths

abbrev pub lengths : List (List Part) → List ℕ
lengths lists = map length lists

pub lengths_push : (lists : List (List Part)) (list : List Part) (width : ℕ) → length list ≡ width → lengths (lists ++ list ∷ []) ≡ lengths lists ++ width ∷ []
lengths_push lists list width same = rw (map-append length lists (list ∷ []), same) refl

pub lengths_more : (before next left rest : List (List Part)) (column : List Part) → left ≡ column ∷ rest → lengths next ≡ lengths before ++ length column ∷ [] → lengths next ++ lengths rest ≡ lengths before ++ lengths left
lengths_more before next left rest column e is = rw (e, is) (append_assoc (lengths before) (length column ∷ []) (lengths rest))

as_many : (made columns : List (List Part)) → lengths made ≡ lengths columns → length made ≡ length columns
as_many [] [] same = refl
as_many [] (column ∷ columns) same = absurd (cc same)
as_many (one ∷ made) [] same = absurd (cc same)
as_many (one ∷ made) (column ∷ columns) same =
    let rest : lengths made ≡ lengths columns = cc same in
    let own = as_many made columns rest in
    omega arith

as_wide : (width : ℕ) (made columns : List (List Part)) → lengths made ≡ lengths columns → AreOfWidth width columns → AreOfWidth width made
as_wide width [] [] same all = All-nil (IsOfWidth width)
as_wide width [] (column ∷ columns) same all = absurd (cc same)
as_wide width (one ∷ made) [] same all = absurd (cc same)
as_wide width (one ∷ made) (column ∷ columns) same all =
    let first : length one ≡ length column = cc same in
    let rest : lengths made ≡ lengths columns = cc same in
    All-cons (IsOfWidth width) one made (first ∙ All-head (IsOfWidth width) column columns all) (as_wide width made columns rest (All-tail (IsOfWidth width) column columns all))

-- columns that are turned back
pub table_count : (width : ℕ) (lists made : List (List Part)) → lengths made ≡ lengths (turned width lists) → length (turned (length lists) made) ≡ length lists
table_count width lists made same = turned_count (length lists) made (as_wide (length lists) made (turned width lists) same (turned_widths width lists))

pub table_widths : (width : ℕ) (lists made : List (List Part)) → AreOfWidth width lists → lengths made ≡ lengths (turned width lists) → AreOfWidth width (turned (length lists) made)
table_widths width lists made all same =
    let e : length made ≡ width = as_many made (turned width lists) same ∙ turned_count width lists all in
    let own : AreOfWidth (length made) (turned (length lists) made) = turned_widths (length lists) made in
    rw e at own

-- ---- one list more

pub width_pushed : (width : ℕ) (lists : List (List Part)) (list : List Part) → 0 < length lists → AreOfWidth width lists → width_of (lists ++ list ∷ []) ≡ width
width_pushed width [] list some all = absurd (omega arith)
width_pushed width (first ∷ lists) list some all = All-head (IsOfWidth width) first lists all
