-- Constants, columns and VALUE (manual 4.1.2, 4.2.1, 8.14 for NULL, CREATE DOMAIN for VALUE).
use Rattle.std.specs.Prelude.{ℕ, ◌^◌, List, Bool, true, false, ◌&&◌, cond, codes, length, nat_le, nat_lt, Result, Ok, slice_get}
use Rattle.std.specs.Option.{option_map_or}
use Rattle.std.specs.Str.{bytes_eq}
use Rattle.std.specs.Result.{result_map_both}
use Rattle.xp_base.specs.FromLeft.{and_then}
use Rattle.xp_base.specs.declared.codes.Code.TheVariants as code
use Rattle.xp_base.specs.declared.codes.EvalError.TheVariants.{Limit}
use Rattle.xp_base.specs.declared.decimal.Dec.{Dec}
use Rattle.xp_base.specs.declared.limits.TheConstants.{VALUE_LIMIT}
use Rattle.xp_base.specs.declared.numbers.TypeNo.{TypeNo}
use Rattle.xp_value.specs.declared.value.Value.TheVariants.{Null, Opaque}
use Rattle.xp_numeric.specs.Texts.{text}
use Rattle.xp_catalog.specs.declared.header.HeaderColumn.{HeaderColumn}
use Rattle.xp_catalog.specs.declared.rows.Context.TheVariants.{Explicit}
use Rattle.xp_catalog.specs.Contents.{Contents}
use Rattle.xp_catalog.specs.Headers.{column_named}
use Rattle.xp_catalog.specs.Lookups.{type_named}
use Rattle.xp_types.specs.Readers.{unknown}
use Rattle.xp_tree.specs.Term.{Term, column, constant as fixed, given, leaf}
use Rattle.xp_named.specs.declared.named.NamedType.{NamedType}
use Rattle.xp_named.specs.declared.refusal.Refusal.{Refusal}
use Rattle.xp_coerce.specs.Coerced.{coerced, read_text}
use Rattle.xp_coerce.specs.Types.{node_type}
use Rattle.xp_resolve.specs.declared.made.Made.{Made}
use Rattle.xp_resolve.specs.declared.made.Progress.{Progress}
use Rattle.xp_resolve.specs.Conversions.{refusal_of}
use Rattle.xp_resolve.specs.Made.{finished, refused}
use Rattle.xp_resolve.specs.Scene.{Scene}

-- a text that has no type yet, where it isn't longer than a value may be
abbrev pub literal : Contents → ℕ → List ℕ → Result Term Refusal
literal c at text = cond (nat_le (length text) VALUE_LIMIT) (Ok (leaf (fixed (Opaque text)) (node_type c unknown))) (refused (code.Raised Limit) at)

-- a text, or NULL, gets a type where one is wanted
abbrev pub text_literal : Scene → ℕ → List ℕ → Progress → Result Made Refusal
text_literal scene at text progress = and_then (literal scene.c at text) (finished scene at progress.nodes progress.uses)

abbrev pub null_literal : Scene → ℕ → Progress → Result Made Refusal
null_literal scene at progress = finished scene at progress.nodes progress.uses (leaf (fixed Null) (node_type scene.c unknown))

-- a text that is read as a text of the type
abbrev pub read_as : Scene → ℕ → NamedType → List ℕ → Result Term Refusal
read_as scene at named text =
    and_then (literal scene.c at text) (λ t. result_map_both (λ a. a) (refusal_of Explicit at at) (coerced scene.c scene.checks t named.ty named.modifier Explicit))

-- a type's name before a string: the value that it is a text of
abbrev pub typed_literal : Scene → ℕ → NamedType → List ℕ → Progress → Result Made Refusal
typed_literal scene at named text progress = and_then (read_as scene at named text) (finished scene at progress.nodes progress.uses)

-- the constant of the type that a text is
abbrev pub constant_of : Scene → ℕ → TypeNo → List ℕ → Result Term Refusal
constant_of scene at type text = result_map_both (λ a. a) (refusal_of Explicit at at) (read_text scene.c type text)

abbrev pub constant : Scene → ℕ → TypeNo → List ℕ → Progress → Result Made Refusal
constant scene at type text progress = and_then (constant_of scene at type text) (finished scene at progress.nodes progress.uses)

-- a constant of the type of that name, by its text
abbrev pub constant_named : Scene → ℕ → List ℕ → List ℕ → Progress → Result Made Refusal
constant_named scene at name text progress = option_map_or (λ type. constant scene at type text progress) (type_named scene.c name) (refused code.UnknownType at)

-- the type of a number: int4 or int8 where it is whole and fits, else numeric
abbrev pub number_type : Dec → Bool → List ℕ
number_type number whole =
    cond (whole && nat_lt number.coef (2 ^ 31)) (codes "int4") (
    cond (whole && nat_lt number.coef (2 ^ 63)) (codes "int8") (codes "numeric"))

abbrev pub number : Scene → ℕ → Dec → Bool → Progress → Result Made Refusal
number scene at value whole progress = constant_named scene at (number_type value whole) (text value) progress

abbrev pub truth_text : Bool → List ℕ
truth_text true = codes "true"
truth_text false = codes "false"

abbrev pub truth : Scene → ℕ → Bool → Progress → Result Made Refusal
truth scene at value progress = constant_named scene at (codes "bool") (truth_text value) progress

-- the column at that place, counted from 0
abbrev pub column_of : Scene → ℕ → List ℕ → Progress → ℕ → TypeNo → Result Made Refusal
column_of scene at name progress place type = finished scene at progress.nodes progress.uses (leaf (column place name) (node_type scene.c type))

abbrev pub column_at : Scene → ℕ → List ℕ → Progress → ℕ → Result Made Refusal
column_at scene at name progress place =
    option_map_or (λ (found : HeaderColumn). column_of scene at name progress place found.ty) (slice_get scene.columns place) (refused code.UnknownColumn at)

-- VALUE, which has that type
abbrev pub value_of : Scene → ℕ → Progress → TypeNo → Result Made Refusal
value_of scene at progress type = finished scene at progress.nodes progress.uses (leaf given (node_type scene.c type))

-- in a check, under the name that VALUE folds to
abbrev pub named_value : Scene → ℕ → List ℕ → Progress → Result Made Refusal
named_value scene at name progress =
    cond (bytes_eq name (codes "value")) (option_map_or (value_of scene at progress) scene.value (refused code.UnknownColumn at)) (refused code.UnknownColumn at)

abbrev pub named_column : Scene → ℕ → List ℕ → Progress → Result Made Refusal
named_column scene at name progress = option_map_or (column_at scene at name progress) (column_named scene.columns name) (named_value scene at name progress)
