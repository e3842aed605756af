-- One more cast, and the paths between other types.
use Rattle.std.proofs.Common.{◌≡◌, ℕ, ◌<◌, List, [], ◌∷◌, Bool, false, length, refl, Option, Some, None, position}
use Rattle.xp_base.specs.declared.numbers.TypeNo.{TypeNo}
use Rattle.xp_catalog.specs.declared.rows.CastRow.{CastRow}
use Rattle.xp_catalog.specs.declared.rows.Context.{Context}
use Rattle.xp_catalog.specs.declared.record.Record.TheVariants as row
use Rattle.xp_catalog.specs.Contents.{Contents, added}
use Rattle.xp_catalog.specs.Lookups.{is_between}
use Rattle.xp_types.specs.Readers.{base, element}
use Rattle.xp_types.specs.Paths.{by_cast, by_elements, first_rule, path}
use Rattle.xp_types.specs.declared.paths.PathKind.{PathKind}
use Rattle.xp_types.specs.MoreCasts.{IsElsewhere, is_between_elements}
use Rattle.xp_types.proofs.Places.{place_found, position_push, slice_get_old}

row_within : {X : Type 0} (test : X → Bool) (xs : List X) (i : ℕ) → position test xs ≡ Some i → i < length xs
row_within test xs i at = (place_found test xs i at).1

by_other_cast : (c : Contents) (cast : CastRow) (wanted : Context) (from to : TypeNo) → is_between from to cast ≡ false → by_cast (added c (row.Cast cast)) wanted from to ≡ by_cast c wanted from to
by_other_cast c cast wanted from to other = go (position (is_between from to) c.casts) refl
  where
    go : (o : Option ℕ) → position (is_between from to) c.casts ≡ o → by_cast (added c (row.Cast cast)) wanted from to ≡ by_cast c wanted from to
    go None at = rw (position_push (is_between from to) c.casts cast other, at) refl
    go (Some i) at = rw (position_push (is_between from to) c.casts cast other, at, slice_get_old c.casts (cast ∷ []) i (row_within (is_between from to) c.casts i at)) refl

by_other_rule : (c : Contents) (cast : CastRow) (wanted : Context) (s t : TypeNo) (elements : Option PathKind) → is_between (base c s) (base c t) cast ≡ false → first_rule (added c (row.Cast cast)) wanted s t elements ≡ first_rule c wanted s t elements
by_other_rule c cast wanted s t elements other = rw (by_other_cast c cast wanted (base c s) (base c t) other) refl

by_other_elements : (c : Contents) (cast : CastRow) (wanted : Context) (s t : Option TypeNo) → is_between_elements c cast s t ≡ false → by_elements (added c (row.Cast cast)) wanted s t ≡ by_elements c wanted s t
by_other_elements c cast wanted None None other = refl
by_other_elements c cast wanted None (Some t) other = refl
by_other_elements c cast wanted (Some s) None other = refl
by_other_elements c cast wanted (Some s) (Some t) other = rw (by_other_rule c cast wanted s t None other) refl

pub by_other_path : (c : Contents) (cast : CastRow) (wanted : Context) (s t : TypeNo) → IsElsewhere c cast s t → path (added c (row.Cast cast)) s t wanted ≡ path c s t wanted
by_other_path c cast wanted s t other = rw (by_other_elements c cast wanted (element c (base c s)) (element c (base c t)) other.elements, by_other_rule c cast wanted s t (by_elements c wanted (element c (base c s)) (element c (base c t))) other.types) refl
