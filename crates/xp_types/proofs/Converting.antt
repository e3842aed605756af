-- That every input has a path to the common type.
use Rattle.std.proofs.Common.{◌≡◌, ℕ, ◌<◌, List, Bool, true, false, All, length, get_or, refl, ap, arith, Option, None, position}
use Rattle.std.proofs.lemmas.List.Sums.{fails_before_first}
use Rattle.std.proofs.lemmas.Option.{get_or_from_slice_get, slice_get-get_or}
use Rattle.xp_base.specs.declared.numbers.TypeNo.{TypeNo}
use Rattle.xp_catalog.specs.Contents.{Contents}
use Rattle.xp_types.specs.Readers.{is_known, is_same}
use Rattle.xp_types.specs.Paths.{converts, first_rule, is_path}
use Rattle.xp_types.specs.declared.paths.PathKind.{PathKind}
use Rattle.xp_types.specs.declared.paths.PathKind.TheVariants.{Literal, Same}
use Rattle.xp_catalog.specs.declared.rows.Context.{Context}
use Rattle.xp_catalog.specs.declared.rows.Context.TheVariants as context
use Rattle.xp_types.proofs.Places.{place_missing}

pub literal_first : (c : Contents) (wanted : Context) (s t : TypeNo) (elements : Option PathKind) → is_known s ≡ false → first_rule c wanted s t elements ≡ Literal
literal_first c wanted s t elements is = rw is refl

pub same_second : (c : Contents) (wanted : Context) (s t : TypeNo) (elements : Option PathKind) → is_known s ≡ true → is_same s t ≡ true → first_rule c wanted s t elements ≡ Same
same_second c wanted s t elements known same = rw (known, same) refl

unknown_converts : (c : Contents) (s t : TypeNo) → is_known s ≡ false → converts c s t ≡ true
unknown_converts c s t is = ap is_path (literal_first c context.Implicit s t _ is)

same_converts : (c : Contents) (s t : TypeNo) → is_same s t ≡ true → converts c s t ≡ true
same_converts c s t same = go (is_known s) refl
  where
    go : (b : Bool) → is_known s ≡ b → converts c s t ≡ true
    go false is = unknown_converts c s t is
    go true is = ap is_path (same_second c context.Implicit s t _ is same)

-- where no input is known, each is read as the type
pub unknown_convert : (c : Contents) (inputs : List TypeNo) (t : TypeNo) → position is_known inputs ≡ None → All (λ s. converts c s t ≡ true) inputs
unknown_convert c inputs t none k d within = unknown_converts c (get_or inputs k d) t (fails_before_first is_known inputs k d (omega (arith, within, place_missing is_known inputs none)))

-- what stands at a place within a list doesn't depend on what stands for the places past its end
pub within_any : (xs : List TypeNo) (k : ℕ) (d e : TypeNo) → k < length xs → get_or xs k d ≡ get_or xs k e
within_any xs k d e within = get_or_from_slice_get xs k (get_or xs k e) d (slice_get-get_or xs k e within)
