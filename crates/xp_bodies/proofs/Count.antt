-- That there are few bodies, and that a named one is among them.
use Rattle.std.proofs.Common.{◌≡◌, ℕ, ◌<◌, List, [], length, ◌^◌, lit<, Some, sym, subst}
use Rattle.std.proofs.lemmas.List.Quantifiers.{position-Some}
use Rattle.std.specs.Str.{bytes_eq}
use Rattle.xp_bodies.specs.Row.{Row, usual}
use Rattle.xp_bodies.specs.Table.{arithmetic, arrays, bodies, comparisons, dates, edits, integers, numerics, place_named, ranges, texts}

pub few_bodies : length bodies < 2 ^ 32
unfolding bodies arithmetic comparisons integers numerics texts edits dates arrays ranges
few_bodies = lit< tt

pub place_within : (name : List ℕ) (rows : List Row) (place : ℕ) → Some place ≡ place_named name rows → rows ≡ bodies → place < length bodies
place_within name rows place e same =
    let found : place < length rows = (position-Some (λ (row : Row). bytes_eq row.name name) rows place (usual [] [] []) (sym e)).0 in
    subst (λ (all : List Row). place < length all) same found
