-- How a value is converted along a path (manual 10.1; CREATE CAST, CREATE FUNCTION).
use Rattle.std.specs.Prelude.{true, false, Option, Some, None, slice_get}
use Rattle.std.specs.Option.{option_map_or}
use Rattle.xp_base.specs.declared.numbers.RowNo.{RowNo}
use Rattle.xp_base.specs.declared.numbers.TypeNo.{TypeNo}
use Rattle.xp_catalog.specs.declared.rows.CastMethod.{CastMethod}
use Rattle.xp_catalog.specs.declared.rows.CastMethod.TheVariants as method
use Rattle.xp_catalog.specs.declared.rows.Context.{Context}
use Rattle.xp_catalog.specs.declared.rows.FuncRow.{FuncRow}
use Rattle.xp_catalog.specs.declared.rows.Volatility.TheVariants.{Immutable}
use Rattle.xp_catalog.specs.Contents.{Contents}
use Rattle.xp_types.specs.declared.paths.PathKind.{PathKind}
use Rattle.xp_types.specs.declared.paths.PathKind.TheVariants as path
use Rattle.xp_types.specs.Readers.{base, element}
use Rattle.xp_types.specs.Paths as types
use Rattle.xp_tree.specs.declared.parts.Callee.{Callee}
use Rattle.xp_tree.specs.declared.parts.NodeType.{NodeType}
use Rattle.xp_tree.specs.declared.parts.Way.{Way}
use Rattle.xp_tree.specs.declared.parts.Way.TheVariants.{ByBody, ByOutput, ByInput, ByRelabel}
use Rattle.xp_tree.specs.Term.{Term, call, input, many, more, none, one, output, relabel}

-- a call of the function of that row
abbrev pub func_callee : RowNo → FuncRow → Callee
func_callee row func = record { row = row; from_cast = false; body = func.body; strict = func.strict; volatility = func.volatility }

-- a call of a cast that has no function: it is strict and immutable, and has no body
abbrev pub cast_callee : RowNo → Callee
cast_callee row = record { row = row; from_cast = true; body = None; strict = true; volatility = Immutable }

-- by a cast: a binary one changes the type alone, another is a call
abbrev pub way_of_cast : Contents → RowNo → CastMethod → Way
way_of_cast c row method.Binary = ByRelabel
way_of_cast c row method.None = ByBody (cast_callee row)
way_of_cast c row (method.Function number) = option_map_or (λ func. ByBody (func_callee number func)) (slice_get c.funcs number.0) ByRelabel

-- by the path: by its cast, or through text; on every other the value stays
abbrev pub way_of : Contents → PathKind → Way
way_of c (path.Cast row) = option_map_or (λ cast. way_of_cast c row cast.method) (slice_get c.casts row.0) ByRelabel
way_of c path.ByOutput = ByOutput
way_of c path.ByInput = ByInput
way_of c _ = ByRelabel

abbrev pub way_between : Contents → Context → Option TypeNo → Option TypeNo → Way
way_between c context (Some s) (Some t) = way_of c (types.path c s t context)
way_between c context _ _ = ByRelabel

-- how the elements of one array type become those of another
abbrev pub element_way : Contents → TypeNo → TypeNo → Context → Way
element_way c s t context = way_between c context (element c (base c s)) (element c (base c t))

-- the node of that type that converts a tree's value in this way
abbrev pub converted_by : Way → Term → NodeType → Term
converted_by (ByBody callee) t ty = many (call callee) (more t none) ty
converted_by ByOutput t ty = one output t ty
converted_by ByInput t ty = one input t ty
converted_by ByRelabel t ty = one relabel t ty
