-- What may stand in parentheses behind a type's name (manual 8.1.2, 8.3; the greatest length is this project's own).
use Rattle.std.specs.Prelude.{ℕ, Bool, true, false, ◌==◌, ◌&&◌, ◌||◌, not, cond, nat_le, codes, Option, Some, None, option_map, option_and_then, List}
use Rattle.std.specs.Option.{option_map_or}
use Rattle.std.specs.Str.{bytes_eq}
use Rattle.xp_base.specs.declared.decimal.Dec.{Dec}
use Rattle.xp_base.specs.declared.limits.TheConstants.{DIGIT_LIMIT}
use Rattle.xp_base.specs.declared.numbers.TypeNo.{TypeNo}
use Rattle.xp_catalog.specs.Contents.{Contents}
use Rattle.xp_catalog.specs.Rules.{name_of}
use Rattle.xp_grammar.specs.declared.types.TypeModifier.{TypeModifier}
use Rattle.xp_grammar.specs.declared.types.TypeModifier.TheVariants as words
use Rattle.xp_grammar.specs.declared.types.TypeName.{TypeName}
use Rattle.xp_grammar.specs.declared.types.TypeName.TheVariants.{Plain}
use Rattle.xp_tree.specs.declared.parts.Modifier.{Modifier}
use Rattle.xp_tree.specs.declared.parts.Modifier.TheVariants as modifier
use Rattle.xp_types.specs.Readers.{element}
use Rattle.xp_named.specs.declared.modifiers.Sizing.{Sizing}
use Rattle.xp_named.specs.declared.modifiers.Sizing.TheVariants as by
use Rattle.xp_named.specs.declared.modifiers.TheConstants.{LENGTH_LIMIT}

abbrev pub sizing_named : List ℕ → Sizing
sizing_named name =
    cond (bytes_eq name (codes "varchar") || bytes_eq name (codes "bpchar")) by.Length (
    cond (bytes_eq name (codes "numeric")) by.Digits by.Nothing)

-- how the type's values are sized, an array's by its elements; a domain's aren't
abbrev pub sizing_of : Contents → TypeNo → Sizing
sizing_of c type = sizing_named (name_of c (option_map_or (λ e. e) (element c type) type))

abbrev pub is_length : ℕ → Bool
is_length n = nat_le 1 n && nat_le n LENGTH_LIMIT

-- that many digits, of which so many behind the point
abbrev pub are_digits : ℕ → ℕ → Bool
are_digits p s = nat_le 1 p && nat_le p DIGIT_LIMIT && nat_le s p

abbrev pub fits_sizing : Sizing → Modifier → Bool
fits_sizing _ modifier.None = true
fits_sizing by.Length (modifier.Length n) = is_length n
fits_sizing by.Digits (modifier.Digits p s) = are_digits p s
fits_sizing _ _ = false

-- the type takes the modifier
abbrev pub takes_modifier : Contents → TypeNo → Modifier → Bool
takes_modifier c type m = fits_sizing (sizing_of c type) m

-- ---- as it is written

-- a number that isn't whole is none
abbrev pub whole : Dec → Option ℕ
whole number = cond (not number.neg && number.scale == 0) (Some number.coef) None

abbrev pub written : Sizing → TypeModifier → Option Modifier
written by.Length (words.Length at n) = option_map modifier.Length (whole n)
written by.Digits (words.Length at p) = option_map (λ digits. modifier.Digits digits 0) (whole p)
written by.Digits (words.Digits at p s) = option_and_then (λ digits. option_map (modifier.Digits digits) (whole s)) (whole p)
written _ _ = None

-- what is written, where it fits
abbrev pub fitting : Sizing → TypeModifier → Option Modifier
fitting way w = option_and_then (λ m. cond (fits_sizing way m) (Some m) None) (written way w)

-- an unquoted `char` or `character` is one character long
abbrev pub is_char : TypeName → Bool
is_char (Plain name) = bytes_eq name (codes "char") || bytes_eq name (codes "character")
is_char _ = false

abbrev pub unwritten : TypeName → Modifier
unwritten name = cond (is_char name) (modifier.Length 1) modifier.None
