-- What the table of bodies declares: where every argument is represented, those that are polymorphic are taken as texts.
use Rattle.std.proofs.Common.{◌≡◌, ℕ, zero, suc, List, [], ◌∷◌, Bool, true, ◌||◌, codes, refl, Some, slice_get}
use Rattle.std.specs.List.{list_all, list_any}
use Rattle.std.specs.Str.{bytes_eq}
use Rattle.std.proofs.lemmas.Bool.{and_parts}
use Rattle.xp_bodies.specs.Row.{Row}
use Rattle.xp_bodies.specs.Table.{arithmetic, arrays, bodies, comparisons, dates, edits, integers, numerics, ranges, texts}
use Rattle.xp_catalog.specs.Spelling.{is_among, plain_names}
use Rattle.xp_resolve.specs.declared.nodes.Taking.{Taking}
use Rattle.xp_resolve.specs.declared.nodes.Taking.TheVariants.{AsBound, AsText, ElementsAsText}
use Rattle.xp_resolve.specs.Nodes.{taking_named}

-- the names at which no value is represented
abbrev pub bare_names : List (List ℕ)
bare_names = codes "any" ∷ codes "anyarray" ∷ codes "anycompatiblearray" ∷ codes "anyrange" ∷ []

abbrev pub is_settled_at : Taking → List ℕ → Bool
is_settled_at AsText name = is_among plain_names name || bytes_eq name (codes "anynonarray")
is_settled_at AsBound name = is_among plain_names name
is_settled_at ElementsAsText name = is_among plain_names name

abbrev pub is_settled : Row → Bool
is_settled row = list_any (is_among bare_names) row.args || list_all (is_settled_at (taking_named row.name)) row.args

all_settled : list_all is_settled bodies ≡ true
unfolding bodies arithmetic comparisons integers numerics texts edits dates arrays ranges
all_settled = refl

pub at_place : (test : Row → Bool) (rows : List Row) (k : ℕ) (row : Row) → list_all test rows ≡ true → slice_get rows k ≡ Some row → test row ≡ true
at_place test [] k row all at = absurd (cc at)
at_place test (first ∷ rows) zero row all at =
    let same : first ≡ row = cc in
    rw (← same) ((and_parts (test first) (list_all test rows) all).0)
at_place test (first ∷ rows) (suc k) row all at = at_place test rows k row ((and_parts (test first) (list_all test rows) all).1) at

pub body_settled : (k : ℕ) (row : Row) → slice_get bodies k ≡ Some row → is_settled row ≡ true
body_settled k row at = at_place is_settled bodies k row all_settled at
