-- The common type of several inputs (manual 10.5).
use Rattle.std.specs.Prelude.{ℕ, List, [], ◌∷◌, Bool, ◌==◌, ◌&&◌, not, cond, filter, map, codes, unwrap_or, Option, Some, None}
use Rattle.std.specs.Option.{option_map_or}
use Rattle.std.specs.List.{list_all, position}
use Rattle.xp_base.specs.declared.numbers.TypeNo.{TypeNo}
use Rattle.xp_catalog.specs.Contents.{Contents}
use Rattle.xp_catalog.specs.Lookups.{type_named}
use Rattle.xp_types.specs.Readers.{base, category, is_known, is_same, preferred, unknown}
use Rattle.xp_types.specs.Paths.{converts}
use Rattle.xp_types.specs.declared.common_type.CommonType.{CommonType}
use Rattle.xp_types.specs.declared.common_type.CommonType.TheVariants.{One, Mixed, NoPath}

-- step 1: all inputs are of one type, and it isn't unknown
abbrev pub shared_type : List TypeNo → Option TypeNo
shared_type [] = None
shared_type (first ∷ others) = cond (is_known first && list_all (is_same first) others) (Some first) None

-- step 2 and 3: inputs of type unknown are ignored, and a domain counts as the type that it is over
abbrev pub considered : Contents → List TypeNo → List TypeNo
considered c inputs = map (base c) (filter is_known inputs)

-- the type text, which is the answer where all are unknown
abbrev pub text : Contents → TypeNo
text c = unwrap_or (type_named c (codes "text")) unknown

-- step 4: they are all of that category
abbrev pub are_of : Contents → ℕ → List TypeNo → Bool
are_of c letter types = list_all (λ type. category c type == letter) types

-- step 5: the other type is selected where the candidate converts to it and it doesn't convert to the candidate
abbrev pub selected : Contents → TypeNo → TypeNo → TypeNo
selected c candidate other = cond (converts c candidate other && not (converts c other candidate)) other candidate

-- step 5: the others are considered from left to right, until a preferred type is selected
abbrev pub candidate_of : Contents → TypeNo → List TypeNo → TypeNo
candidate_of c candidate [] = candidate
candidate_of c candidate (other ∷ others) = cond (preferred c candidate) candidate (candidate_of c (selected c candidate other) others)

abbrev pub at_first : TypeNo → Option ℕ → CommonType
at_first type None = One type
at_first type (Some place) = NoPath place

-- step 6: all inputs are converted to the candidate; the first that can't be is at fault
abbrev pub converted : Contents → List TypeNo → TypeNo → CommonType
converted c inputs type = at_first type (position (λ input. not (converts c input type)) inputs)

-- steps 3 to 6, over the types that are considered
abbrev pub common_of : Contents → List TypeNo → List TypeNo → CommonType
common_of c inputs [] = One (text c)
common_of c inputs (first ∷ others) = cond (are_of c (category c first) others) (converted c inputs (candidate_of c first others)) Mixed

-- the common type
abbrev pub common : Contents → List TypeNo → CommonType
common c inputs = option_map_or (λ type. One type) (shared_type inputs) (common_of c inputs (considered c inputs))

-- what is said of the type, where there is one
abbrev pub IfOne : CommonType → (TypeNo → Type 0) → Type 0
IfOne (One type) P = P type
IfOne _ P = Unit {0}
