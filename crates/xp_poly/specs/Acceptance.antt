-- Whether declared types accept inputs, all positions together (manual 38.2.5, 10.2 step 3.a, 10.3 step 4.a).
use Rattle.std.specs.Prelude.{List, [], ◌∷◌, Bool, true, false, ◌&&◌, ◌||◌, not, cond, codes, Option, Some, None, filter_map, is_some, option_and_then, unwrap_or, zip}
use Rattle.std.specs.Option.{option_map_or}
use Rattle.std.specs.List.{list_all, list_any}
use Rattle.xp_base.specs.declared.numbers.TypeNo.{TypeNo}
use Rattle.xp_catalog.specs.Contents.{Contents}
use Rattle.xp_catalog.specs.Lookups.{type_named}
use Rattle.xp_types.specs.Readers.{array_of, base, is_array, is_same, unknown}
use Rattle.xp_types.specs.Paths.{converts}
use Rattle.xp_types.specs.Common.{common}
use Rattle.xp_types.specs.declared.common_type.CommonType.{CommonType}
use Rattle.xp_types.specs.declared.common_type.CommonType.TheVariants as common_is
use Rattle.xp_poly.specs.Roles.{is_of, role}
use Rattle.xp_poly.specs.Members.{counts_as, given, is_of_range, range_given}
use Rattle.xp_catalog.specs.declared.rows.Family.{Family}
use Rattle.xp_catalog.specs.declared.rows.Family.TheVariants.{First, Second}
use Rattle.xp_poly.specs.declared.roles.Form.{Form}
use Rattle.xp_poly.specs.declared.roles.Form.TheVariants.{Element, NonArray, Array, Range}
use Rattle.xp_poly.specs.declared.roles.Role.{Role}
use Rattle.xp_poly.specs.declared.roles.Role.TheVariants as role_is
use Rattle.xp_poly.specs.declared.members.KnownInput.{KnownInput}

abbrev pub plain_accepts : Contents → TypeNo → TypeNo → Role → Bool
plain_accepts c declared input role_is.Plain = converts c input declared
plain_accepts c declared input _ = true

-- a plain type accepts what has an implicit path to it, unknown inputs among them
abbrev pub accepts_plain : Contents → TypeNo × TypeNo → Bool
accepts_plain c pair = plain_accepts c pair.0 pair.1 (role c pair.0)

-- some declared type is of the family
abbrev pub uses : Contents → Family → List TypeNo → Bool
uses c family declared = list_any (λ type. is_of family (role c type)) declared

-- ---- the first family

abbrev pub first_given : List KnownInput → Option KnownInput
first_given [] = None
first_given (first ∷ others) = Some first

-- the type that the inputs of the first family count as
abbrev pub element_type : Contents → List KnownInput → Option TypeNo
element_type c inputs = option_and_then (counts_as c) (first_given inputs)

abbrev pub is_nonarray_form : Form → Bool
is_nonarray_form NonArray = true
is_nonarray_form _ = false

-- an input counts as the element type, is no array at anynonarray, and of the range type at anyrange
abbrev pub fits_element : Contents → TypeNo → Option TypeNo → KnownInput → Bool
fits_element c type range given =
    option_map_or (is_same type) (counts_as c given) false
    && not (is_nonarray_form given.form && is_array c (base c given.input))
    && is_of_range c range given

abbrev pub fit_element : Contents → List KnownInput → Option TypeNo → Bool
fit_element c inputs None = false
fit_element c inputs (Some type) = list_all (fits_element c type (range_given c inputs)) inputs

abbrev pub is_empty : List KnownInput → Bool
is_empty [] = true
is_empty (first ∷ others) = false

abbrev pub accepts_first : Contents → List KnownInput → Bool
accepts_first c inputs = is_empty inputs || fit_element c inputs (element_type c inputs)

-- ---- the second family

abbrev pub counted : Contents → List KnownInput → List TypeNo
counted c inputs = filter_map (counts_as c) inputs

abbrev pub one_of : CommonType → Option TypeNo
one_of (common_is.One type) = Some type
one_of _ = None

-- the common type of what the inputs of the second family count as; text where none is known
abbrev pub compatible_type : Contents → List KnownInput → Option TypeNo
compatible_type c inputs = cond (is_some (type_named c (codes "text"))) (one_of (common c (counted c inputs))) None

-- the array type over a type, and unknown where there is none
abbrev pub array_type : Contents → TypeNo → TypeNo
array_type c type = unwrap_or (array_of c type) unknown

abbrev pub reaches : Contents → TypeNo → TypeNo → Option TypeNo → Form → Bool
reaches c type input counts Element = converts c input type
reaches c type input counts NonArray = converts c input type
reaches c type input counts Array = is_some counts && converts c input (array_type c type)
reaches c type input counts Range = option_map_or (is_same type) counts false

-- an input has an implicit path to the common type, or, where an array is declared, to the array type over it; a range is the one range type and over the common type
abbrev pub fits_compatible : Contents → TypeNo → Option TypeNo → KnownInput → Bool
fits_compatible c type range given = reaches c type given.input (counts_as c given) given.form && is_of_range c range given

-- anycompatiblenonarray is declared
abbrev pub is_nonarray : Role → Bool
is_nonarray (role_is.Member Second NonArray) = true
is_nonarray _ = false

abbrev pub has_nonarray : Contents → List TypeNo → Bool
has_nonarray c declared = list_any (λ type. is_nonarray (role c type)) declared

-- a position at anycompatiblenonarray asks for a common type that is no array
abbrev pub fit_compatible : Contents → List TypeNo → List KnownInput → Option TypeNo → Bool
fit_compatible c declared inputs None = false
fit_compatible c declared inputs (Some type) =
    is_empty inputs || (not (has_nonarray c declared && is_array c type) && list_all (fits_compatible c type (range_given c inputs)) inputs)

-- in a catalogue without text the second family accepts nothing
abbrev pub accepts_second : Contents → List TypeNo → List KnownInput → Bool
accepts_second c declared inputs = not (uses c Second declared) || fit_compatible c declared inputs (compatible_type c inputs)

-- ---- both, and plain types

abbrev pub accepts : Contents → List TypeNo → List TypeNo → Bool
accepts c declared inputs =
    let pairs = zip declared inputs in
    list_all (accepts_plain c) pairs && accepts_first c (given c First pairs) && accepts_second c declared (given c Second pairs)
