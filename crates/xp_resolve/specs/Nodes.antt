-- Nodes over values that are arguments: what a body takes of the polymorphic types, and the texts that stand for values (manual 9.4, 9.19, 38.2.5).
use Rattle.std.specs.Prelude.{List, ◌||◌, cond, codes, ℕ, Option, Some, None, slice_get}
use Rattle.std.specs.Option.{option_map_or}
use Rattle.std.specs.Str.{bytes_eq}
use Rattle.xp_base.specs.declared.numbers.BodyNo.{BodyNo}
use Rattle.xp_base.specs.declared.numbers.TypeNo.{TypeNo}
use Rattle.xp_bodies.specs.Table.{bodies}
use Rattle.xp_catalog.specs.Contents.{Contents}
use Rattle.xp_types.specs.Readers.{is_same}
use Rattle.xp_tree.specs.declared.parts.Way.TheVariants.{ByOutput}
use Rattle.xp_tree.specs.Term.{Term, elements, one, output, type_of}
use Rattle.xp_coerce.specs.Types.{node_type}
use Rattle.xp_resolve.specs.declared.nodes.Taking.{Taking}
use Rattle.xp_resolve.specs.declared.nodes.Taking.TheVariants.{AsBound, AsText, ElementsAsText}

-- concatenation with a text takes the other value as its text, array_to_string those of the elements
abbrev pub taking_named : List ℕ → Taking
taking_named name =
    cond (bytes_eq name (codes "textany_text_anynonarray") || bytes_eq name (codes "anytext_anynonarray_text")) AsText (
    cond (bytes_eq name (codes "array_to_string_anyarray_text") || bytes_eq name (codes "array_to_string_anyarray_text_text")) ElementsAsText AsBound)

abbrev pub taking_of : Option BodyNo → Taking
taking_of None = AsBound
taking_of (Some body) = option_map_or (λ row. taking_named row.name) (slice_get bodies body.0) AsBound

-- the text that stands for a value; a text stays as it stands
abbrev pub written : Contents → TypeNo → Term → Term
written c text t = cond (is_same (type_of t).no text) t (one output t (node_type c text))

-- the array of the texts of an array's elements; an array of texts stays as it stands
abbrev pub elements_written : Contents → TypeNo → Term → Term
elements_written c texts t = cond (is_same (type_of t).no texts) t (one (elements ByOutput) t (node_type c texts))
