-- How the values of a type are kept, by its record in the catalogue (manual 8.1, 8.3, 8.4, 8.5, 8.6, 8.18).
use Rattle.std.specs.Prelude.{ℕ, List, Bool, true, false}
use Rattle.std.specs.Option.{option_map_or}
use Rattle.std.specs.Str.{bytes_eq}
use Rattle.xp_base.specs.declared.numbers.TypeNo.{TypeNo}
use Rattle.xp_value.specs.declared.value.Rep.{Rep}
use Rattle.xp_value.specs.declared.value.Rep.TheVariants as rep
use Rattle.xp_value.specs.Names.{rep_named}
use Rattle.xp_value.specs.Representation.{Shape, plain}
use Rattle.xp_catalog.specs.declared.rows.TypeKind.{TypeKind}
use Rattle.xp_catalog.specs.declared.rows.TypeKind.TheVariants as kind
use Rattle.xp_catalog.specs.Contents.{Contents}
use Rattle.xp_catalog.specs.Rules.{kind_of, name_of}
use Rattle.xp_types.specs.Readers.{base, element}

-- The representations whose text form is built: all but those of arrays and ranges.
abbrev pub is_built : Rep → Bool
is_built rep.Arr = false
is_built rep.Int4Range = false
is_built rep.Int8Range = false
is_built rep.DateRange = false
is_built _ = true

-- A type whose text form isn't built, as an array type or a range type, counts as opaque: its values are texts as they stand.
abbrev pub rep_by : TypeKind → List ℕ → Rep
rep_by kind.Plain name = rep_named name
rep_by _ name = rep.Opaque

-- the representation of a type; a domain has its base's
abbrev pub rep_of : Contents → TypeNo → Rep
rep_of c type = rep_by (kind_of c (base c type)) (name_of c (base c type))

-- the representation of an array type's elements, Opaque where the type is no array type
abbrev pub element_rep : Contents → TypeNo → Rep
element_rep c type = option_map_or (rep_of c) (element c (base c type)) rep.Opaque

-- how the type keeps its values
abbrev pub shape_of : Contents → TypeNo → Shape
shape_of c type = plain (rep_of c type)
