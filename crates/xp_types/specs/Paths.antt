-- The path from one type to another in a context (manual 10.1, 10.4, 8.15, 8.18; CREATE CAST, CREATE DOMAIN; the order of the rules is this project's own).
use Rattle.std.specs.Prelude.{Bool, true, false, ◌==◌, ◌&&◌, not, cond, Option, Some, None, option_map, slice_get, unwrap_or}
use Rattle.std.specs.Option.{option_map_or, option_or}
use Rattle.xp_base.specs.declared.numbers.TypeNo.{TypeNo}
use Rattle.xp_base.specs.declared.numbers.RowNo.{RowNo}
use Rattle.xp_catalog.specs.declared.rows.Context.{Context}
use Rattle.xp_catalog.specs.declared.rows.Context.TheVariants as context
use Rattle.xp_catalog.specs.Contents.{Contents}
use Rattle.xp_catalog.specs.Lookups.{cast_between}
use Rattle.xp_catalog.specs.Rules.{is_domain_kind, kind_of}
use Rattle.xp_types.specs.Readers.{base, category, element, is_known, is_same}
use Rattle.xp_types.specs.declared.paths.PathKind.{PathKind}
use Rattle.xp_types.specs.declared.paths.PathKind.TheVariants.{Literal, Same, Relabel, Cast, Elements, ByOutput, ByInput, NoPath}

-- an implicit cast serves every context, an assignment cast assignment and explicit context, an explicit cast explicit context alone
abbrev pub serves : Context → Context → Bool
serves context.Implicit wanted = true
serves context.Assignment context.Implicit = false
serves context.Assignment _ = true
serves context.Explicit context.Explicit = true
serves context.Explicit _ = false

-- the context in which the cast of a row is allowed
abbrev pub allowed_at : Contents → Context → RowNo → Bool
allowed_at c wanted row = option_map_or (λ cast. serves cast.context wanted) (slice_get c.casts row.0) false

-- where a cast stands for two types, it decides: it is the path, or there is none
abbrev pub by_cast : Contents → Context → TypeNo → TypeNo → Option PathKind
by_cast c wanted from to = option_map (λ row. cond (allowed_at c wanted row) (Cast row) NoPath) (cast_between c from to)

-- strings have category S (83)
abbrev pub is_string : Contents → TypeNo → Bool
is_string c type = category c type == 83

abbrev pub is_domain : Contents → TypeNo → Bool
is_domain c type = is_domain_kind (kind_of c type)

-- to a string by output text, in assignment and explicit context; from a string by input text, in explicit context
abbrev pub through_text : Contents → Context → TypeNo → TypeNo → PathKind
through_text c wanted from to =
    cond (is_string c to && serves context.Assignment wanted) ByOutput (
    cond (is_string c from && serves context.Explicit wanted) ByInput NoPath)

-- the path of two types that aren't unknown and count as these: by a cast, by elements, through text; the first that decides
abbrev pub path_of_bases : Contents → Context → TypeNo → TypeNo → Option PathKind → PathKind
path_of_bases c wanted from to elements = unwrap_or (option_or (by_cast c wanted from to) elements) (through_text c wanted from to)

-- the rules in their order, where it is known what the elements decide
abbrev pub first_rule : Contents → Context → TypeNo → TypeNo → Option PathKind → PathKind
first_rule c wanted s t elements =
    cond (is_known s) (
    cond (is_same s t) Same (
    cond (is_same (base c s) (base c t)) Relabel
    (path_of_bases c wanted (base c s) (base c t) elements)))
    Literal

abbrev pub is_path : PathKind → Bool
is_path NoPath = false
is_path _ = true

-- between arrays whose elements are of no domain the elements decide: the path is theirs, one by one, or there is none; they are no arrays themselves
abbrev pub by_elements : Contents → Context → Option TypeNo → Option TypeNo → Option PathKind
by_elements c wanted (Some s) (Some t) = cond (not (is_domain c s) && not (is_domain c t)) (Some (cond (is_path (first_rule c wanted s t None)) Elements NoPath)) None
by_elements c wanted _ _ = None

-- the first rule that applies
abbrev pub path : Contents → TypeNo → TypeNo → Context → PathKind
path c s t wanted = first_rule c wanted s t (by_elements c wanted (element c (base c s)) (element c (base c t)))

-- there is an implicit path
abbrev pub converts : Contents → TypeNo → TypeNo → Bool
converts c s t = is_path (path c s t context.Implicit)
