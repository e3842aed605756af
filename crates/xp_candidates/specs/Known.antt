-- Unknown inputs, base types, and the type that all known inputs have (manual 10.2 step 3.b and 3.f, 10.3 step 4.b and 4.f).
use Rattle.std.specs.Prelude.{List, [], ◌∷◌, cond, filter, map, Option, Some, None}
use Rattle.std.specs.List.{list_all}
use Rattle.xp_base.specs.declared.numbers.TypeNo.{TypeNo}
use Rattle.xp_catalog.specs.Contents.{Contents}
use Rattle.xp_types.specs.Readers.{base, is_known, is_same}

-- 3.b: an input of a domain type counts as its base type
abbrev pub bases : Contents → List TypeNo → List TypeNo
bases c inputs = map (base c) inputs

-- the type that all have
abbrev pub shared : List TypeNo → Option TypeNo
shared [] = None
shared (type ∷ types) = cond (list_all (is_same type) types) (Some type) None

-- 3.f: the type that all known ones have, where there are both unknown and known ones
abbrev pub known_type : List TypeNo → Option TypeNo
known_type types = cond (list_all is_known types) None (shared (filter is_known types))

-- 3.f: an unknown input is taken as that type
abbrev pub taken_as : TypeNo → TypeNo → TypeNo
taken_as type input = cond (is_known input) input type
