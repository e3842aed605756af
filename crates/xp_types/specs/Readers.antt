-- What is read off a type: the type that it counts as, its category, which pseudo-type it is, its element, its array type, its subtype (manual 8.15, 8.17, 8.18, 10.1, 53.64).
use Rattle.std.specs.Prelude.{ℕ, Bool, true, false, ◌==◌, ◌&&◌, not, Option, Some, None, is_some, option_map, slice_get}
use Rattle.std.specs.Option.{option_map_or}
use Rattle.std.specs.List.{position}
use Rattle.xp_base.specs.declared.numbers.TypeNo.{TypeNo}
use Rattle.xp_catalog.specs.declared.rows.PseudoType.{PseudoType}
use Rattle.xp_catalog.specs.declared.rows.TypeKind.{TypeKind}
use Rattle.xp_catalog.specs.declared.rows.TypeKind.TheVariants as kind
use Rattle.xp_catalog.specs.declared.rows.TypeRow.{TypeRow}
use Rattle.xp_catalog.specs.Contents.{Contents, category_at}
use Rattle.xp_catalog.specs.Lookups.{type_number}
use Rattle.xp_catalog.specs.Rules.{kind_of}

-- the type of a literal that has none yet
abbrev pub unknown : TypeNo
unknown = type_number 0

abbrev pub is_same : TypeNo → TypeNo → Bool
is_same a b = a.0 == b.0

abbrev pub is_known : TypeNo → Bool
is_known type = not (is_same type unknown)

abbrev pub base_by : Contents → TypeNo → TypeKind → TypeNo
base_by c type (kind.Domain number) = option_map_or (λ domain. domain.base) (slice_get c.domains number.0) type
base_by c type _ = type

-- a domain counts as the type that it is over, every other type as itself
abbrev pub base : Contents → TypeNo → TypeNo
base c type = base_by c type (kind_of c type)

abbrev pub category : Contents → TypeNo → ℕ
category c type = category_at c.types type

abbrev pub preferred : Contents → TypeNo → Bool
preferred c type = option_map_or (λ row. row.preferred) (slice_get c.types type.0) false

abbrev pub pseudo_by : TypeKind → Option PseudoType
pseudo_by (kind.Pseudo pseudo) = Some pseudo
pseudo_by _ = None

-- which pseudo-type it is, where it is one
abbrev pub pseudo_type : Contents → TypeNo → Option PseudoType
pseudo_type c type = pseudo_by (kind_of c type)

abbrev pub element_by : TypeKind → Option TypeNo
element_by (kind.Array element) = Some element
element_by _ = None

-- the type of an array's elements; a domain over an array is no array
abbrev pub element : Contents → TypeNo → Option TypeNo
element c type = element_by (kind_of c type)

abbrev pub is_array : Contents → TypeNo → Bool
is_array c type = is_some (element c type)

abbrev pub subtype_by : Contents → TypeKind → Option TypeNo
subtype_by c (kind.Range number) = option_map (λ range. range.subtype) (slice_get c.ranges number.0)
subtype_by c _ = None

-- the type of a range's bounds
abbrev pub subtype : Contents → TypeNo → Option TypeNo
subtype c type = subtype_by c (kind_of c type)

abbrev pub is_array_over : TypeNo → TypeRow → Bool
is_array_over type row = option_map_or (is_same type) (element_by row.kind) false

-- arrays, pseudo-types and unknown have no array type, all others have one
abbrev pub has_array_type : TypeKind → Bool
has_array_type (kind.Array element) = false
has_array_type (kind.Pseudo pseudo) = false
has_array_type _ = true

abbrev pub has_array : Contents → TypeNo → Bool
has_array c type = is_known type && has_array_type (kind_of c type)

-- the type whose elements are of that type
abbrev pub array_of : Contents → TypeNo → Option TypeNo
array_of c type = option_map type_number (position (is_array_over type) c.types)
