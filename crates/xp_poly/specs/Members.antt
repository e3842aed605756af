-- The known inputs at the positions of a family, and what they count as (manual 38.2.5).
use Rattle.std.specs.Prelude.{All, List, Bool, true, false, cond, Option, Some, None, filter_map, find, option_map}
use Rattle.std.specs.Option.{option_map_or}
use Rattle.xp_base.specs.declared.numbers.TypeNo.{TypeNo}
use Rattle.xp_catalog.specs.Contents.{Contents}
use Rattle.xp_types.specs.Readers.{base, element, is_known, is_same, subtype}
use Rattle.xp_types.specs.Within.{IsType}
use Rattle.xp_poly.specs.Roles.{is_family, role}
use Rattle.xp_catalog.specs.declared.rows.Family.{Family}
use Rattle.xp_poly.specs.declared.roles.Form.{Form}
use Rattle.xp_poly.specs.declared.roles.Form.TheVariants.{Element, NonArray, Array, Range}
use Rattle.xp_poly.specs.declared.roles.Role.{Role}
use Rattle.xp_poly.specs.declared.roles.Role.TheVariants as role_is
use Rattle.xp_poly.specs.declared.members.KnownInput.{KnownInput}

abbrev pub given_by : Family → TypeNo → Role → Option KnownInput
given_by family input (role_is.Member of form) = cond (is_family family of) (Some (record { form = form; input = input })) None
given_by family input _ = None

-- a declared type and its input: what is given there to the family, where the input is known
abbrev pub given_at : Contents → Family → TypeNo × TypeNo → Option KnownInput
given_at c family pair = cond (is_known pair.1) (given_by family pair.1 (role c pair.0)) None

-- the known inputs at the family's positions
abbrev pub given : Contents → Family → List (TypeNo × TypeNo) → List KnownInput
given c family pairs = filter_map (given_at c family) pairs

abbrev pub counts_by : Contents → Form → TypeNo → Option TypeNo
counts_by c Element type = Some type
counts_by c NonArray type = Some type
counts_by c Array type = element c type
counts_by c Range type = subtype c type

-- an input counts as its base type; as its elements' type where an array is declared, which it then has to be; as its bounds' type where a range is
abbrev pub counts_as : Contents → KnownInput → Option TypeNo
counts_as c given = counts_by c given.form (base c given.input)

abbrev pub is_range_form : Form → Bool
is_range_form Range = true
is_range_form _ = false

-- the range type of the first input where a range is declared
abbrev pub range_given : Contents → List KnownInput → Option TypeNo
range_given c inputs = option_map (λ given. base c given.input) (find (λ given. is_range_form given.form) inputs)

-- where a range is declared, the input is of that range type
abbrev pub is_of_range : Contents → Option TypeNo → KnownInput → Bool
is_of_range c range given = cond (is_range_form given.form) (option_map_or (is_same (base c given.input)) range false) true

-- their numbers are those of types
abbrev pub AreKnownTypes : Contents → List KnownInput → Type 0
AreKnownTypes c inputs = All (λ (given : KnownInput). IsType c given.input) inputs
