-- The tree that a tree becomes as one of another type (manual 10.1 to 10.4; CREATE CAST, CREATE DOMAIN).
use Rattle.std.specs.Prelude.{ℕ, List, Bool, true, false, Result, Ok, Err, slice_get}
use Rattle.std.specs.Option.{option_map_or}
use Rattle.std.specs.Result.{result_map_both}
use Rattle.xp_base.specs.declared.codes.Code.TheVariants.{Raised}
use Rattle.xp_base.specs.declared.codes.EvalError.{EvalError}
use Rattle.xp_base.specs.declared.numbers.TypeNo.{TypeNo}
use Rattle.xp_value.specs.declared.value.Value.{Value}
use Rattle.xp_value.specs.declared.value.Value.TheVariants as value
use Rattle.xp_catalog.specs.declared.rows.Context.{Context}
use Rattle.xp_catalog.specs.declared.rows.Context.TheVariants.{Explicit}
use Rattle.xp_catalog.specs.declared.rows.TypeKind.{TypeKind}
use Rattle.xp_catalog.specs.declared.rows.TypeKind.TheVariants as kind
use Rattle.xp_catalog.specs.Contents.{Contents}
use Rattle.xp_catalog.specs.Rules.{kind_of}
use Rattle.xp_types.specs.declared.paths.PathKind.{PathKind}
use Rattle.xp_types.specs.declared.paths.PathKind.TheVariants as path
use Rattle.xp_types.specs.Readers.{base}
use Rattle.xp_types.specs.Paths as types
use Rattle.xp_tree.specs.declared.checks.DomainCheck.{DomainCheck}
use Rattle.xp_tree.specs.declared.parts.Modifier.{Modifier}
use Rattle.xp_tree.specs.declared.parts.Modifier.TheVariants as modifier
use Rattle.xp_tree.specs.Checked.{check_of}
use Rattle.xp_tree.specs.Term.{Term, constant, elements, leaf, one, sizing, type_of}
use Rattle.xp_tree.specs.View.{checked_by}
use Rattle.xp_io.specs.Forms.{input}
use Rattle.xp_io.specs.Representations.{shape_of}
use Rattle.xp_coerce.specs.declared.fault.CoerceFault.{CoerceFault}
use Rattle.xp_coerce.specs.declared.fault.CoerceFault.TheVariants.{BadLiteral, CannotCoerce, Memory}
use Rattle.xp_coerce.specs.Types.{node_type}
use Rattle.xp_coerce.specs.Ways.{converted_by, element_way, way_of}

abbrev pub constant_of : Contents → TypeNo → Value → Term
constant_of c type v = leaf (constant v) (node_type c type)

abbrev pub bad_literal : EvalError → CoerceFault
bad_literal error = BadLiteral (Raised error)

-- the constant of the type that a text is
abbrev pub read_text : Contents → TypeNo → List ℕ → Result Term CoerceFault
read_text c type text = result_map_both (constant_of c type) bad_literal (input (shape_of c type) text)

-- the text of a literal is read as a text of the type, and a null is a null of it
abbrev pub read_value : Contents → TypeNo → Value → Result Term CoerceFault
read_value c type (value.Opaque text) = read_text c type text
read_value c type v = Ok (constant_of c type v)

-- a literal as a constant of the type; no tree but a constant has none
abbrev pub read : Contents → TypeNo → Term → Result Term CoerceFault
read c type (leaf (constant v) ty) = read_value c type v
read c type t = Ok t

-- along a path to a type that is no domain, where `target` is wanted
abbrev pub along : Contents → PathKind → Term → TypeNo → TypeNo → Context → Result Term CoerceFault
along c path.Literal t type target context = read c type t
along c path.Same t type target context = Ok t
along c path.Elements t type target context = Ok (one (elements (element_way c (type_of t).no type context)) t (node_type c type))
along c path.NoPath t type target context = Err (CannotCoerce (type_of t).no target)
along c found t type target context = Ok (converted_by (way_of c found) t (node_type c type))

-- a domain is converted to as the type that it is over
abbrev pub converted : Contents → Term → TypeNo → Context → Result Term CoerceFault
converted c t target context = along c (types.path c (type_of t).no target context) t (base c target) target context

-- only an explicit cast cuts
abbrev pub cuts : Context → Bool
cuts Explicit = true
cuts _ = false

-- brought to the modifier, where there is one
abbrev pub sized : Modifier → Context → Term → Term
sized modifier.None context t = t
sized m context t = one (sizing m (cuts context)) t (type_of t)

abbrev pub guarded_by : Contents → List DomainCheck → TypeNo → TypeKind → Term → Term
guarded_by c checks target (kind.Domain number) t = checked_by t number (option_map_or (λ domain. domain.not_null) (slice_get c.domains number.0) false) (check_of checks number) (node_type c target)
guarded_by c checks target _ t = t

-- under the NOT NULL and the check of the domain, where the type is one
abbrev pub guarded : Contents → List DomainCheck → TypeNo → Term → Term
guarded c checks target t = guarded_by c checks target (kind_of c target) t

-- converted, then brought to the modifier, then looked at by the domain
abbrev pub coerced : Contents → List DomainCheck → Term → TypeNo → Modifier → Context → Result Term CoerceFault
coerced c checks t target m context = result_map_both (λ a. guarded c checks target (sized m context a)) (λ fault. fault) (converted c t target context)

-- want of memory, among the faults
abbrev pub is_memory : CoerceFault → Bool
is_memory Memory = true
is_memory _ = false
