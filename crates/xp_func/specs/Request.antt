-- A call that stands for a cast (manual 10.3 step 3, 4.2.9).
use Rattle.std.specs.Prelude.{ℕ, List, [], ◌∷◌, Bool, true, false, ◌&&◌, not, cond, slice_get, Option, Some, None}
use Rattle.std.specs.Option.{option_map_or}
use Rattle.xp_base.specs.declared.numbers.TypeNo.{TypeNo}
use Rattle.xp_base.specs.declared.numbers.RowNo.{RowNo}
use Rattle.xp_catalog.specs.declared.rows.CastMethod.{CastMethod}
use Rattle.xp_catalog.specs.declared.rows.CastMethod.TheVariants as method
use Rattle.xp_catalog.specs.declared.rows.Context.TheVariants as context
use Rattle.xp_catalog.specs.Contents.{Contents}
use Rattle.xp_catalog.specs.Lookups.{type_named}
use Rattle.xp_catalog.specs.Rules.{is_pseudo_kind, kind_of}
use Rattle.xp_types.specs.Paths.{path}
use Rattle.xp_types.specs.declared.paths.PathKind.{PathKind}
use Rattle.xp_types.specs.declared.paths.PathKind.TheVariants.{Literal, Same, Relabel, Cast, Elements, ByOutput, ByInput, NoPath}

abbrev pub is_binary_method : CastMethod → Bool
is_binary_method method.Binary = true
is_binary_method _ = false

-- the cast leaves the value as it is
abbrev pub is_binary : Contents → RowNo → Bool
is_binary c row = option_map_or (λ cast. is_binary_method cast.method) (slice_get c.casts row.0) false

-- paths of an unknown literal, without a function, and through text
abbrev pub requests : Contents → PathKind → Bool
requests c Literal = true
requests c Same = true
requests c Relabel = true
requests c (Cast row) = is_binary c row
requests c Elements = false
requests c ByOutput = true
requests c ByInput = true
requests c NoPath = false

abbrev pub is_castable : Contents → TypeNo → TypeNo → Bool
is_castable c input type = not (is_pseudo_kind (kind_of c type)) && requests c (path c input type context.Explicit)

abbrev pub request_to : Contents → TypeNo → Option TypeNo → Option TypeNo
request_to c input None = None
request_to c input (Some type) = cond (is_castable c input type) (Some type) None

-- the type that is asked for: the name is a type's, and there is one argument, without the word VARIADIC
abbrev pub cast_request : Contents → List ℕ → List TypeNo → Bool → Option TypeNo
cast_request c name (input ∷ []) false = request_to c input (type_named c name)
cast_request c name _ _ = None
