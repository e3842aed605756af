-- ARRAY and subscripts over operands that are resolved (manual 4.2.3, 4.2.12, 8.15, 10.5).
use Rattle.std.specs.Prelude.{ℕ, List, codes, Result, Ok}
use Rattle.std.specs.Option.{option_map_or}
use Rattle.xp_base.specs.FromLeft.{and_then}
use Rattle.xp_base.specs.declared.codes.Code.TheVariants as code
use Rattle.xp_base.specs.declared.numbers.TypeNo.{TypeNo}
use Rattle.xp_catalog.specs.declared.rows.Context.TheVariants.{Assignment}
use Rattle.xp_catalog.specs.Contents.{Contents}
use Rattle.xp_catalog.specs.Lookups.{type_named}
use Rattle.xp_types.specs.Readers.{array_of, base, element}
use Rattle.xp_tree.specs.Term.{array, many, none, subscript, terms, two, type_of}
use Rattle.xp_named.specs.declared.refusal.Refusal.{Refusal}
use Rattle.xp_coerce.specs.Types.{node_type}
use Rattle.xp_resolve.specs.declared.conversions.Converted.{Converted}
use Rattle.xp_resolve.specs.declared.made.Gathered.{Gathered}
use Rattle.xp_resolve.specs.declared.made.Made.{Made}
use Rattle.xp_resolve.specs.declared.made.Part.{Part}
use Rattle.xp_resolve.specs.declared.made.Progress.{Progress}
use Rattle.xp_resolve.specs.Calls.{types_of}
use Rattle.xp_resolve.specs.Conversions.{converted, plainly}
use Rattle.xp_resolve.specs.Made.{finished, refused}
use Rattle.xp_resolve.specs.Scene.{Scene}
use Rattle.xp_forms.specs.declared.operands.Both.{Both}
use Rattle.xp_forms.specs.Common.{alike, common_type}

-- ---- ARRAY

-- an array of that type over elements of the type that they have in common
abbrev pub array_over : Scene → ℕ → ℕ → Gathered → TypeNo → TypeNo → Result Made Refusal
array_over scene at before operands type array_type =
    and_then (alike scene at operands.progress.nodes type operands.parts) (λ all.
    finished scene at before operands.progress.uses (many array (terms all.trees) (node_type scene.c array_type)))

-- arrays have no array type: an array of them is refused
abbrev pub array_from : Scene → ℕ → ℕ → Gathered → List TypeNo → Result Made Refusal
array_from scene at before operands inputs =
    and_then (common_type scene.c at inputs) (λ type.
    option_map_or (array_over scene at before operands type) (array_of scene.c type) (refused code.NestedArray at))

abbrev pub array_made : Scene → ℕ → ℕ → Gathered → Result Made Refusal
array_made scene at before operands = array_from scene at before operands (types_of operands.parts)

-- an array without elements is of the array type to which it is cast
abbrev pub empty_array : Scene → ℕ → TypeNo → Progress → Result Made Refusal
empty_array scene at type progress = finished scene at progress.nodes progress.uses (many array none (node_type scene.c type))

-- ---- subscripts

-- the type of an index, which a catalogue may lack
abbrev pub index_type : Contents → ℕ → Result TypeNo Refusal
index_type c at = option_map_or Ok (type_named c (codes "int4")) (refused code.UnknownType at)

-- an index is stored as an int4: what can't be assigned is a mismatch
abbrev pub as_index : Scene → ℕ → ℕ → TypeNo → Part → Result Converted Refusal
as_index scene at nodes int4 part = converted scene at nodes part (plainly int4) Assignment

abbrev pub element_at : Scene → ℕ → ℕ → Both → TypeNo → TypeNo → Result Made Refusal
element_at scene at before operands int4 type =
    and_then (as_index scene at operands.progress.nodes int4 operands.right) (λ (index : Converted).
    finished scene at before operands.progress.uses (two subscript operands.left.tree index.tree (node_type scene.c type)))

-- an element of an array, by its index; a domain over an array counts as the array
abbrev pub subscripted : Scene → ℕ → ℕ → Both → Result Made Refusal
subscripted scene at before operands =
    and_then (index_type scene.c at) (λ int4.
    option_map_or (element_at scene at before operands int4) (element scene.c (base scene.c (type_of operands.left.tree).no)) (refused code.Mismatch at))
