-- What the parameters of a call ask of its arguments (manual 38.2.5, 38.5.6; what stands at `any` is written as text by this project's own rule).
use Rattle.std.specs.Prelude.{ℕ, ◌-◌, ◌==◌, List, [], ◌∷◌, ◌++◌, Bool, true, false, ◌&&◌, cond, is_some, length, replicate, slice_get, take, unwrap_or, Option, Some, None, option_map, option_and_then}
use Rattle.std.specs.Option.{option_map_or}
use Rattle.xp_base.specs.declared.numbers.TypeNo.{TypeNo}
use Rattle.xp_catalog.specs.Contents.{Contents}
use Rattle.xp_types.specs.Common.{text}
use Rattle.xp_types.specs.Readers.{array_of, element, is_array, is_same, subtype, unknown}
use Rattle.xp_poly.specs.Roles.{role}
use Rattle.xp_poly.specs.declared.roles.Form.{Form}
use Rattle.xp_poly.specs.declared.roles.Form.TheVariants.{Element, NonArray, Array, Range}
use Rattle.xp_poly.specs.declared.roles.Role.{Role}
use Rattle.xp_poly.specs.declared.roles.Role.TheVariants.{Plain, Any, Member}
use Rattle.xp_resolve.specs.declared.nodes.Taking.{Taking}
use Rattle.xp_resolve.specs.declared.nodes.Taking.TheVariants.{AsText, ElementsAsText}
use Rattle.xp_resolve.specs.declared.targets.Target.{Target}
use Rattle.xp_resolve.specs.declared.targets.Target.TheVariants as target

abbrev pub if_there : Bool → TypeNo → Option Target
if_there there type = cond there (Some (target.Of type)) None

-- an array type or a range type that isn't there is none
abbrev pub by_member : Taking → Contents → TypeNo → Form → Option Target
by_member AsText c type Element = Some target.Text
by_member AsText c type NonArray = Some target.Text
by_member ElementsAsText c type Array = Some target.ElementsWritten
by_member taking c type Element = Some (target.Of type)
by_member taking c type NonArray = Some (target.Of type)
by_member taking c type Array = if_there (is_array c type) type
by_member taking c type Range = if_there (is_some (subtype c type)) type

-- the elements of an array that is spread are written
abbrev pub by_any : Bool → Target
by_any true = target.ElementsWritten
by_any false = target.Written

abbrev pub by_role : Taking → Contents → Bool → TypeNo → Role → Option Target
by_role taking c spread type Plain = Some (target.Of type)
by_role taking c spread type Any = Some (by_any spread)
by_role taking c spread type (Member family form) = by_member taking c type form

-- a declared type, and the type that stands for it in the call
abbrev pub target_of : Taking → Contents → Bool → TypeNo × TypeNo → Option Target
target_of taking c spread pair = by_role taking c spread pair.1 (role c pair.0)

abbrev pub is_last : List (TypeNo × TypeNo) → Bool
is_last [] = true
is_last (pair ∷ pairs) = false

-- from left to right, behind those before them; of a variadic record that takes its arguments as they stand, the last one is spread
abbrev pub targets : Taking → Contents → Bool → List Target → List (TypeNo × TypeNo) → Option (List Target)
targets taking c variadic before [] = Some before
targets taking c variadic before (pair ∷ pairs) =
    option_and_then (λ t. targets taking c variadic (before ++ t ∷ []) pairs) (target_of taking c (variadic && is_last pairs) pair)

-- ---- several arguments for one parameter

abbrev pub with_copies : List Target → ℕ → Target → List Target
with_copies front extra each = front ++ replicate extra each

-- that of the last alone
abbrev pub last_target : Taking → Contents → List (TypeNo × TypeNo) → Option Target
last_target taking c pairs = option_and_then (target_of taking c false) (slice_get pairs (length pairs - 1))

-- the arguments of a variadic parameter are all brought to the type of its elements
abbrev pub spread_targets : Taking → Contents → ℕ → List (TypeNo × TypeNo) → Option (List Target)
spread_targets taking c extra pairs =
    option_and_then (λ front. option_map (with_copies front extra) (last_target taking c pairs)) (targets taking c false [] (take (length pairs - extra) pairs))

abbrev pub targets_of : Taking → Contents → Bool → ℕ → List (TypeNo × TypeNo) → Option (List Target)
targets_of taking c variadic extra pairs = cond (extra == 0) (targets taking c variadic [] pairs) (spread_targets taking c extra pairs)

-- the type of an argument that is converted
abbrev pub type_at : Contents → Target → TypeNo
type_at c (target.Of type) = type
type_at c target.Text = text c
type_at c target.Written = text c
type_at c target.ElementsWritten = unwrap_or (array_of c (text c)) unknown

abbrev pub is_array_over : Contents → TypeNo → TypeNo → Bool
is_array_over c array type = option_map_or (is_same type) (element c array) false

-- the array type that such arguments make together: the declared one where it is over their type, else that over their type
abbrev pub spread_type : Contents → TypeNo → Target → Option TypeNo
spread_type c declared each = cond (is_array_over c declared (type_at c each)) (Some declared) (array_of c (type_at c each))
