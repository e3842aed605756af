-- Casts, constants of a type, and ARRAY without elements under a cast (manual 4.1.2.7, 4.2.9, 4.2.12).
use Rattle.std.specs.Prelude.{ℕ, List, cond, Option, Some, None, Result, Ok, Err}
use Rattle.xp_base.specs.FromLeft.{and_then}
use Rattle.xp_base.specs.declared.codes.Code.TheVariants as code
use Rattle.xp_base.specs.declared.numbers.Span.{Span}
use Rattle.xp_catalog.specs.declared.rows.Context.TheVariants.{Explicit}
use Rattle.xp_catalog.specs.Contents.{Contents}
use Rattle.xp_grammar.specs.declared.types.TypeWords.{TypeWords}
use Rattle.xp_named.specs.Named.{named_type}
use Rattle.xp_named.specs.declared.named.NamedType.{NamedType}
use Rattle.xp_named.specs.declared.refusal.Refusal.{Refusal}
use Rattle.xp_types.specs.Readers.{is_array}
use Rattle.xp_resolve.specs.declared.conversions.Converted.{Converted}
use Rattle.xp_resolve.specs.declared.made.Made.{Made}
use Rattle.xp_resolve.specs.declared.made.Progress.{Progress}
use Rattle.xp_resolve.specs.Conversions.{converted}
use Rattle.xp_resolve.specs.Literals.{typed_literal}
use Rattle.xp_resolve.specs.Made.{finished, refused}
use Rattle.xp_resolve.specs.Scene.{Scene}
use Rattle.xp_forms.specs.Arrays.{empty_array}
use Rattle.xp_expressions.specs.Operands.{Resolution}

abbrev pub cast_to : Scene → Span → ℕ → NamedType → Made → Result Made Refusal
cast_to scene at before named made =
    and_then (converted scene at.start made.progress.nodes made.part named Explicit) (λ (one : Converted). finished scene at.start before made.progress.uses one.tree)

-- the type is named once its operand is there
abbrev pub cast_words : Scene → Span → TypeWords → ℕ → Made → Result Made Refusal
cast_words scene at words before made = and_then (named_type scene.c words) (λ named. cast_to scene at before named made)

abbrev pub typed : Scene → Span → TypeWords → List ℕ → Resolution
typed scene at words text progress = and_then (named_type scene.c words) (λ named. typed_literal scene at.start named text progress)

-- ---- ARRAY without elements has the array type to which it is cast

-- other words than those of an array type leave its type open; what is wrong with a name that has brackets is refused as under any cast
abbrev pub array_named : Contents → TypeWords → ℕ → Result NamedType Refusal → Result NamedType Refusal
array_named c words place (Ok named) = cond (is_array c named.ty) (Ok named) (refused code.Indeterminate place)
array_named c words place (Err why) = cond words.array (Err why) (refused code.Indeterminate place)

abbrev pub empty_as : Scene → Span → ℕ → Progress → NamedType → Result Made Refusal
empty_as scene at place progress named = and_then (empty_array scene place named.ty progress) (cast_to scene at progress.nodes named)

abbrev pub empty_cast : Scene → Span → TypeWords → ℕ → Resolution
empty_cast scene at words place progress = and_then (array_named scene.c words place (named_type scene.c words)) (empty_as scene at place progress)

-- a cast of an operand, which may be an ARRAY without elements at that place
abbrev pub cast : Scene → Span → TypeWords → Option ℕ → Resolution → Resolution
cast scene at words None operand progress = and_then (operand progress) (cast_words scene at words progress.nodes)
cast scene at words (Some place) operand progress = empty_cast scene at words place progress
