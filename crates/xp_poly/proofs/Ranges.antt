-- The first range record over a type.
use Rattle.std.proofs.Common.{◌≡◌, ℕ, ◌+◌, List, ◌∷◌, true, false, Some, drop, find, refl, ◌∙◌, ap, slice_get}
use Rattle.std.specs.Option.{option_map_or}
use Rattle.xp_base.specs.declared.numbers.TypeNo.{TypeNo}
use Rattle.xp_catalog.specs.declared.rows.RangeRow.{RangeRow}
use Rattle.xp_types.specs.Readers.{is_same, unknown}
use Rattle.xp_base.proofs.Lists.{rest_at}

abbrev pub over : TypeNo → List RangeRow → TypeNo
over t ranges = option_map_or (λ range. range.ty) (find (λ range. is_same range.subtype t) ranges) unknown

over_first : (t : TypeNo) (range : RangeRow) (ranges : List RangeRow) → is_same range.subtype t ≡ true → over t (range ∷ ranges) ≡ range.ty
over_first t range ranges is = rw is refl

over_others : (t : TypeNo) (range : RangeRow) (ranges : List RangeRow) → is_same range.subtype t ≡ false → over t (range ∷ ranges) ≡ over t ranges
over_others t range ranges is = rw is refl

pub over_here : (t : TypeNo) (ranges : List RangeRow) (row : ℕ) (range : RangeRow) → slice_get ranges row ≡ Some range → is_same range.subtype t ≡ true → over t (drop row ranges) ≡ range.ty
over_here t ranges row range at is = ap (over t) (rest_at ranges row range at) ∙ over_first t range (drop (row + 1) ranges) is

pub over_later : (t : TypeNo) (ranges : List RangeRow) (row : ℕ) (range : RangeRow) → slice_get ranges row ≡ Some range → is_same range.subtype t ≡ false → over t (drop row ranges) ≡ over t (drop (row + 1) ranges)
over_later t ranges row range at is = ap (over t) (rest_at ranges row range at) ∙ over_others t range (drop (row + 1) ranges) is
