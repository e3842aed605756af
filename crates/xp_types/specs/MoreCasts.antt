-- Casts between other types (manual, CREATE CAST).
use Rattle.std.specs.Prelude.{◌≡◌, Bool, false, Option, Some}
use Rattle.xp_base.specs.declared.numbers.TypeNo.{TypeNo}
use Rattle.xp_catalog.specs.declared.rows.CastRow.{CastRow}
use Rattle.xp_catalog.specs.Contents.{Contents}
use Rattle.xp_catalog.specs.Lookups.{is_between}
use Rattle.xp_types.specs.Readers.{base, element}

abbrev pub is_between_elements : Contents → CastRow → Option TypeNo → Option TypeNo → Bool
is_between_elements c cast (Some s) (Some t) = is_between (base c s) (base c t) cast
is_between_elements c cast _ _ = false

-- the cast is not the one of the two types, nor the one of their elements
pub record IsElsewhere (c : Contents) (cast : CastRow) (s t : TypeNo) : Type 0 where
  pub types : is_between (base c s) (base c t) cast ≡ false
  pub elements : is_between_elements c cast (element c (base c s)) (element c (base c t)) ≡ false
