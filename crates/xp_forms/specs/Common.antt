-- Inputs that come to one type, and what selects among them: COALESCE, GREATEST and LEAST (manual 9.18, 10.5).
use Rattle.std.specs.Prelude.{ℕ, List, map, Result, Ok}
use Rattle.xp_base.specs.FromLeft.{and_then}
use Rattle.xp_base.specs.declared.codes.Code.TheVariants as code
use Rattle.xp_base.specs.declared.numbers.TypeNo.{TypeNo}
use Rattle.xp_catalog.specs.Contents.{Contents}
use Rattle.xp_grammar.specs.declared.ast.Selection.{Selection}
use Rattle.xp_grammar.specs.declared.ast.Selection.TheVariants.{Coalesce, Greatest, Least}
use Rattle.xp_types.specs.Common.{common}
use Rattle.xp_types.specs.declared.common_type.CommonType.{CommonType}
use Rattle.xp_types.specs.declared.common_type.CommonType.TheVariants.{One, Mixed, NoPath}
use Rattle.xp_tree.specs.Term.{Many, coalesce, greatest, least, many, terms}
use Rattle.xp_named.specs.declared.refusal.Refusal.{Refusal}
use Rattle.xp_coerce.specs.Types.{node_type}
use Rattle.xp_resolve.specs.declared.conversions.ConvertedAll.{ConvertedAll}
use Rattle.xp_resolve.specs.declared.made.Gathered.{Gathered}
use Rattle.xp_resolve.specs.declared.made.Made.{Made}
use Rattle.xp_resolve.specs.declared.made.Part.{Part}
use Rattle.xp_resolve.specs.declared.targets.Target.{Target}
use Rattle.xp_resolve.specs.declared.targets.Target.TheVariants as target
use Rattle.xp_resolve.specs.Calls.{types_of}
use Rattle.xp_resolve.specs.Conversions.{arguments, none_yet, text_type}
use Rattle.xp_resolve.specs.Made.{finished, refused}
use Rattle.xp_resolve.specs.Scene.{Scene}

-- the type that the inputs come to, or why they come to none
abbrev pub decided : ℕ → CommonType → Result TypeNo Refusal
decided at (One type) = Ok type
decided at Mixed = refused code.Mismatch at
decided at (NoPath place) = refused code.CannotCoerce at

-- inputs that all are unknown come to text, so that type has to be there
abbrev pub common_type : Contents → ℕ → List TypeNo → Result TypeNo Refusal
common_type c at inputs = and_then (text_type c at) (λ text. decided at (common c inputs))

abbrev pub each_of : TypeNo → List Part → List Target
each_of type parts = map (λ part. target.Of type) parts

-- each converted to the type, from left to right
abbrev pub alike : Scene → ℕ → ℕ → TypeNo → List Part → Result ConvertedAll Refusal
alike scene at nodes type parts = arguments scene at (none_yet nodes) parts (each_of type parts)

abbrev pub selecting : Selection → Many
selecting Coalesce = coalesce
selecting Greatest = greatest
selecting Least = least

abbrev pub selected_over : Scene → Selection → ℕ → ℕ → Gathered → List TypeNo → Result Made Refusal
selected_over scene selection at before operands inputs =
    and_then (common_type scene.c at inputs) (λ type.
    and_then (alike scene at operands.progress.nodes type operands.parts) (λ all.
    finished scene at before operands.progress.uses (many (selecting selection) (terms all.trees) (node_type scene.c type))))

-- COALESCE, GREATEST or LEAST, beside trees of `before` nodes
abbrev pub selected : Scene → Selection → ℕ → ℕ → Gathered → Result Made Refusal
selected scene selection at before operands = selected_over scene selection at before operands (types_of operands.parts)
