-- Lists that are turned into their columns, and columns into lists.
use Rattle.std.proofs.Common.{◌<◌, ℕ, List, [], ◌∷◌, ◌++◌, length, replicate, arith}
use Rattle.std.specs.List.{All}
use Rattle.std.proofs.lemmas.List.{length-append}
use Rattle.std.proofs.lemmas.List.Elements.{All-cons, All-head, All-nil, All-push, All-replicate, All-tail}
use Rattle.xp_catalog.specs.Contents.{Contents}
use Rattle.xp_coerce.specs.Asked.{IsSource}
use Rattle.xp_resolve.specs.declared.made.Part.{Part}
use Rattle.xp_resolve.specs.inner.Sources.{AreSources}
use Rattle.xp_columns.specs.Columns.{turned, width_of, with_list, with_lists}
use Rattle.xp_columns.specs.inner.Tables.{AreColumns, AreLists}

-- ---- what holds of the items

one_more : (c : Contents) (columns : List (List Part)) (list : List Part) → AreLists c columns → AreSources c list → AreLists c (with_list columns list)
one_more c [] list all own = All-nil (AreSources c)
one_more c (column ∷ columns) [] all own = All-nil (AreSources c)
one_more c (column ∷ columns) (x ∷ xs) all own =
    All-cons (AreSources c) (column ++ x ∷ []) (with_list columns xs)
    (All-push (λ (part : Part). IsSource c part.tree) column x (All-head (AreSources c) column columns all) (All-head (λ (part : Part). IsSource c part.tree) x xs own))
    (one_more c columns xs (All-tail (AreSources c) column columns all) (All-tail (λ (part : Part). IsSource c part.tree) x xs own))

more : (c : Contents) (columns lists : List (List Part)) → AreLists c columns → AreLists c lists → AreLists c (with_lists columns lists)
more c columns [] all own = all
more c columns (list ∷ lists) all own =
    more c (with_list columns list) lists (one_more c columns list all (All-head (AreSources c) list lists own)) (All-tail (AreSources c) list lists own)

none_yet : (c : Contents) (width : ℕ) → AreLists c (replicate width [])
none_yet c width = All-replicate (AreSources c) width [] (All-nil (λ (part : Part). IsSource c part.tree))

pub all_lists : (c : Contents) (width : ℕ) (lists : List (List Part)) → AreLists c lists → AreLists c (turned width lists)
all_lists c width lists all = more c (replicate width []) lists (none_yet c width) all

-- ---- no column is without items

abbrev HasItems : List Part → Type 0
HasItems parts = 0 < length parts

one_behind : (column : List Part) (x : Part) → HasItems (column ++ x ∷ [])
one_behind column x = let counted = length-append column (x ∷ []) in omega (arith, counted)

have_more : (columns : List (List Part)) (list : List Part) → All HasItems (with_list columns list)
have_more [] list = All-nil HasItems
have_more (column ∷ columns) [] = All-nil HasItems
have_more (column ∷ columns) (x ∷ xs) = All-cons HasItems (column ++ x ∷ []) (with_list columns xs) (one_behind column x) (have_more columns xs)

have_items : (columns lists : List (List Part)) → All HasItems columns → All HasItems (with_lists columns lists)
have_items columns [] all = all
have_items columns (list ∷ lists) all = have_items (with_list columns list) lists (have_more columns list)

some_items : (lists : List (List Part)) → All HasItems (turned (width_of lists) lists)
some_items [] = All-nil HasItems
some_items (list ∷ lists) = have_items (with_list (replicate (length list) []) list) lists (have_more (replicate (length list) []) list)

pub all_columns : (c : Contents) (lists : List (List Part)) → AreLists c lists → AreColumns c (turned (width_of lists) lists)
all_columns c lists all =
    λ k d within. record { sources = all_lists c (width_of lists) lists all k d within; some = some_items lists k d within }
