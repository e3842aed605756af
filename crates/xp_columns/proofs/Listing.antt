-- Lists that are gone through one by one, and columns that are converted.
use Rattle.std.proofs.Common.{◌≡◌, ◌<◌, ◌-◌, ◌≤◌, ℕ, suc, List, [], ◌∷◌, ◌++◌, true, append_assoc, append-nil, get_or, length, refl, sym, ap, arith, Ok}
use Rattle.std.specs.List.{All}
use Rattle.std.proofs.lemmas.List.Elements.{All-cons, All-head, All-nil, All-tail}
use Rattle.xp_base.specs.OrMemory.{OrMemory}
use Rattle.xp_base.specs.declared.numbers.TypeNo.{TypeNo}
use Rattle.xp_catalog.specs.Contents.{Contents}
use Rattle.xp_coerce.specs.Asked.{IsSource}
use Rattle.xp_coerce.specs.Types.{node_type}
use Rattle.xp_tree.specs.Term.{Term, type_of}
use Rattle.xp_types.specs.Readers.{is_known}
use Rattle.xp_types.specs.Within.{AreTypes, IsType}
use Rattle.xp_resolve.specs.declared.made.Part.{Part}
use Rattle.xp_resolve.specs.Made.{is_memory}
use Rattle.xp_resolve.specs.Scene.{Scene}
use Rattle.xp_resolve.specs.inner.Sources.{AreSources}
use Rattle.xp_resolve.proofs.Reading.{known_source}
use Rattle.xp_columns.specs.Columns.{arm_joined, columns_made, ends, last_of, parts_of, united, with_column, with_list, with_lists}
use Rattle.xp_columns.specs.declared.columns.Inputs.{Inputs}
use Rattle.xp_columns.specs.declared.columns.Table.{Table}
use Rattle.xp_columns.specs.declared.columns.UnionArm.{UnionArm}

-- ---- items of a list, each put behind those of its column

pub list_more : (before left rest : List (List Part)) (column items others : List Part) (x : Part) → left ≡ column ∷ rest → items ≡ x ∷ others
    → (before ++ (column ++ x ∷ []) ∷ []) ++ with_list rest others ≡ before ++ with_list left items
list_more before left rest column items others x e f = rw (e, f) (append_assoc before ((column ++ x ∷ []) ∷ []) (with_list rest others))

pub list_out : (before left rest : List (List Part)) (column items : List Part) → left ≡ column ∷ rest → items ≡ [] → before ≡ before ++ with_list left items
list_out before left rest column items e f = rw (e, f) (sym (append-nil before))

pub lists_more : (columns left rest : List (List Part)) (list : List Part) → left ≡ list ∷ rest → with_lists (with_list columns list) rest ≡ with_lists columns left
lists_more columns left rest list e = rw e refl

-- ---- the next part

pub parts_more : (at : ℕ) (parts : List Part) (left rest : List Term) (t : Term) → left ≡ t ∷ rest → (parts ++ record { tree = t; at = at } ∷ []) ++ parts_of at rest ≡ parts ++ parts_of at left
parts_more at parts left rest t e = rw e (append_assoc parts (record { tree = t; at = at } ∷ []) (parts_of at rest))

-- ---- what is converted may be converted again

pub parts_sources : (c : Contents) (at : ℕ) (type : TypeNo) (trees : List Term) → IsType c type → is_known type ≡ true → All (λ t. type_of t ≡ node_type c type) trees → AreSources c (parts_of at trees)
parts_sources c at type [] within known all = All-nil (λ (part : Part). IsSource c part.tree)
parts_sources c at type (t ∷ trees) within known all =
    All-cons (λ (part : Part). IsSource c part.tree) (record { tree = t; at = at }) (parts_of at trees)
    (known_source c type t within known (All-head (λ t. type_of t ≡ node_type c type) t trees all))
    (parts_sources c at type trees within known (All-tail (λ t. type_of t ≡ node_type c type) t trees all))

pub as_many_parts : (at : ℕ) (trees : List Term) → length (parts_of at trees) ≡ length trees
as_many_parts at [] = refl
as_many_parts at (t ∷ trees) = let own = as_many_parts at trees in omega arith

-- ---- columns from left to right

pub columns_more : (scene : Scene) (inputs : Inputs) (at : ℕ) (before next : Table) (left rest : List (List Part)) (column : List Part)
    → left ≡ column ∷ rest → OrMemory is_memory (with_column scene inputs at before column) (Ok next)
    → columns_made scene inputs at next rest ≡ columns_made scene inputs at before left
columns_more scene inputs at before next left rest column e is = rw (e, is) refl

-- ---- arms from left to right

pub arms_more : (scene : Scene) (before next : Table) (left rest : List UnionArm) (arm : UnionArm)
    → left ≡ arm ∷ rest → OrMemory is_memory (arm_joined scene before arm) (Ok next) → united scene next rest ≡ united scene before left
arms_more scene before next left rest arm e is = rw (e, is) refl

-- ---- the first and the last

pub ends_few : (types : List TypeNo) → length types < 2 → ends types ≡ types
ends_few [] few = refl
ends_few (a ∷ []) few = refl
ends_few (a ∷ b ∷ types) few = absurd (omega arith)

last_at : (type : TypeNo) (types : List TypeNo) (d : TypeNo) → get_or (type ∷ types) (length types) d ≡ last_of type types
last_at type [] d = refl
last_at type (next ∷ types) d = last_at next types d

pub ends_are : (types : List TypeNo) (d : TypeNo) → 2 ≤ length types → get_or types 0 d ∷ get_or types (length types - 1) d ∷ [] ≡ ends types
ends_are [] d two = absurd (omega arith)
ends_are (a ∷ []) d two = absurd (omega arith)
ends_are (a ∷ b ∷ types) d two =
    let place : length (a ∷ b ∷ types) - 1 ≡ suc (length types) = omega arith in
    rw place (ap (λ last. a ∷ last ∷ []) (last_at b types d))

last_within : (c : Contents) (type : TypeNo) (types : List TypeNo) → IsType c type → AreTypes c types → IsType c (last_of type types)
last_within c type [] own all = own
last_within c type (next ∷ types) own all = last_within c next types (All-head (IsType c) next types all) (All-tail (IsType c) next types all)

pub ends_within : (c : Contents) (types : List TypeNo) → AreTypes c types → AreTypes c (ends types)
ends_within c [] all = all
ends_within c (a ∷ []) all = all
ends_within c (a ∷ b ∷ types) all =
    let rest = All-tail (IsType c) a (b ∷ types) all in
    All-cons (IsType c) a (last_of b types ∷ []) (All-head (IsType c) a (b ∷ types) all)
    (All-cons (IsType c) (last_of b types) [] (last_within c b types (All-head (IsType c) b types rest) (All-tail (IsType c) b types rest)) (All-nil (IsType c)))

pub ends_some : (types : List TypeNo) → 0 < length types → 0 < length (ends types)
ends_some [] some = some
ends_some (a ∷ []) some = some
ends_some (a ∷ b ∷ types) some = omega arith
