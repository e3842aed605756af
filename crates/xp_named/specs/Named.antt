-- The type that words name, with its modifier, or why they are refused (manual 8; the places are this project's own).
use Rattle.std.specs.Prelude.{◌≡◌, ℕ, List, ◌<◌, ◌-◌, cond, codes, drop, take, length, true, Option, Some, None, Result, Ok, Err}
use Rattle.std.specs.Option.{option_map_or}
use Rattle.std.specs.Str.{bytes_eq}
use Rattle.xp_base.specs.declared.codes.Code.{Code}
use Rattle.xp_base.specs.declared.codes.Code.TheVariants.{UnknownType, BadModifier}
use Rattle.xp_base.specs.declared.numbers.Span.{Span}
use Rattle.xp_base.specs.declared.numbers.TypeNo.{TypeNo}
use Rattle.xp_catalog.specs.Contents.{Contents}
use Rattle.xp_grammar.specs.declared.types.TypeModifier.{TypeModifier}
use Rattle.xp_grammar.specs.declared.types.TypeModifier.TheVariants as words
use Rattle.xp_grammar.specs.declared.types.TypeName.{TypeName}
use Rattle.xp_grammar.specs.declared.types.TypeWords.{TypeWords}
use Rattle.xp_tree.specs.declared.parts.Modifier.{Modifier}
use Rattle.xp_named.specs.declared.named.NamedType.{NamedType}
use Rattle.xp_named.specs.declared.refusal.Refusal.{Refusal}
use Rattle.xp_named.specs.declared.refusal.Refusal.TheVariants.{At}
use Rattle.xp_named.specs.Modifiers.{fitting, sizing_of, takes_modifier, unwritten}
use Rattle.xp_named.specs.Names.{array_called, is_value_type, name_of, own_name, type_called}

-- ---- in a statement

-- the type without its modifier
abbrev pub type_of : Contents → TypeWords → Option TypeNo
type_of c w = cond w.array (array_called c (name_of w.name)) (type_called c (name_of w.name))

abbrev pub with_modifier : TypeNo → Modifier → NamedType
with_modifier type m = record { ty = type; modifier = m }

abbrev pub refused : Code → Span → Result NamedType Refusal
refused code place = Err (At code place.start)

-- the type with what is written behind its name, or the place of that
abbrev pub modified_by : TypeModifier → Contents → TypeName → TypeNo → Result NamedType Refusal
modified_by words.None c name type = Ok (with_modifier type (unwritten name))
modified_by (words.Length at n) c name type = option_map_or (λ m. Ok (with_modifier type m)) (fitting (sizing_of c type) (words.Length at n)) (refused BadModifier at)
modified_by (words.Digits at p s) c name type = option_map_or (λ m. Ok (with_modifier type m)) (fitting (sizing_of c type) (words.Digits at p s)) (refused BadModifier at)

-- a type that isn't there is refused at its first token, a modifier at its bracket
abbrev pub named_type : Contents → TypeWords → Result NamedType Refusal
named_type c w = option_map_or (modified_by w.modifier c w.name) (type_of c w) (refused UnknownType w.at)

-- what every type that is named keeps: it is one that values may have, and takes its modifier
pub record IsNamed (c : Contents) (named : NamedType) : Type 0 where
  pub within : named.ty.0 < length c.types
  pub valued : is_value_type c named.ty ≡ true
  pub modifier : takes_modifier c named.ty named.modifier ≡ true

-- ---- in the header of a rows file (this project's own)

-- what stands before brackets at the end
abbrev pub before_brackets : List ℕ → Option (List ℕ)
before_brackets name = cond (bytes_eq (drop (length name - 2) name) (codes "[]")) (Some (take (length name - 2) name)) None

-- one word, which may end in brackets; it isn't folded
abbrev pub header_type : Contents → List ℕ → Option TypeNo
header_type c name = option_map_or (λ element. array_called c (own_name element)) (before_brackets name) (type_called c (own_name name))
