-- What the arguments of a call are converted to, in the order in which they are written (manual 10.2, 10.3; texts of values at `any` are this project's own).
use Rattle.std.specs.Prelude.{ℕ, ◌+◌, ◌-◌, List, [], ◌∷◌, ◌++◌, cond, codes, Result, Ok}
use Rattle.std.specs.Option.{option_map_or}
use Rattle.std.specs.Result.{result_map_both}
use Rattle.xp_base.specs.FromLeft.{and_then}
use Rattle.xp_base.specs.declared.codes.Code.{Code}
use Rattle.xp_base.specs.declared.codes.Code.TheVariants as code
use Rattle.xp_base.specs.declared.numbers.TypeNo.{TypeNo}
use Rattle.xp_catalog.specs.declared.rows.Context.{Context}
use Rattle.xp_catalog.specs.declared.rows.Context.TheVariants.{Implicit, Assignment, Explicit}
use Rattle.xp_catalog.specs.Contents.{Contents}
use Rattle.xp_catalog.specs.Lookups.{type_named}
use Rattle.xp_types.specs.Readers.{array_of, base, is_array, is_known}
use Rattle.xp_tree.specs.declared.parts.Modifier.TheVariants as modifier
use Rattle.xp_tree.specs.Term.{Term, size, type_of}
use Rattle.xp_named.specs.declared.named.NamedType.{NamedType}
use Rattle.xp_named.specs.declared.refusal.Refusal.{Refusal}
use Rattle.xp_named.specs.declared.refusal.Refusal.TheVariants as refusal
use Rattle.xp_coerce.specs.declared.fault.CoerceFault.{CoerceFault}
use Rattle.xp_coerce.specs.declared.fault.CoerceFault.TheVariants.{CannotCoerce, BadLiteral, Memory}
use Rattle.xp_coerce.specs.Coerced.{coerced}
use Rattle.xp_resolve.specs.declared.conversions.Converted.{Converted}
use Rattle.xp_resolve.specs.declared.conversions.ConvertedAll.{ConvertedAll}
use Rattle.xp_resolve.specs.declared.made.Part.{Part}
use Rattle.xp_resolve.specs.declared.targets.Target.{Target}
use Rattle.xp_resolve.specs.declared.targets.Target.TheVariants as target
use Rattle.xp_resolve.specs.Made.{counted, refused}
use Rattle.xp_resolve.specs.Nodes.{elements_written, written}
use Rattle.xp_resolve.specs.Scene.{Scene}

-- how a conversion that isn't there is refused: what can't be assigned is a mismatch
abbrev pub missing : Context → Code
missing Assignment = code.Mismatch
missing _ = code.CannotCoerce

-- a conversion that isn't there is refused where it is asked for, a literal that isn't a text of the type at the literal
abbrev pub refusal_of : Context → ℕ → ℕ → CoerceFault → Refusal
refusal_of context asked_at literal_at (CannotCoerce from to) = refusal.At (missing context) asked_at
refusal_of context asked_at literal_at (BadLiteral code) = refusal.At code literal_at
refusal_of context asked_at literal_at Memory = refusal.Memory

-- a tree takes the place of another among trees of so many nodes
abbrev pub in_place_of : Scene → ℕ → Term → Term → Result Converted Refusal
in_place_of scene nodes old new = and_then (counted scene (nodes - size old + size new)) (λ together. Ok (record { tree = new; nodes = together }))

-- what is asked for at a place
abbrev pub converted : Scene → ℕ → ℕ → Part → NamedType → Context → Result Converted Refusal
converted scene at nodes part named context =
    and_then (result_map_both (λ a. a) (refusal_of context at part.at) (coerced scene.c scene.checks part.tree named.ty named.modifier context)) (in_place_of scene nodes part.tree)

abbrev pub plainly : TypeNo → NamedType
plainly type = record { ty = type; modifier = modifier.None }

-- a text, of which a value stays as it stands, as does what has no type yet
abbrev pub as_written : Scene → ℕ → ℕ → Part → TypeNo → Result Converted Refusal
as_written scene at nodes part text =
    cond (is_known (type_of part.tree).no) (in_place_of scene nodes part.tree (written scene.c text part.tree)) (converted scene at nodes part (plainly text) Implicit)

-- an array of the texts of an array's elements
abbrev pub as_texts : Scene → ℕ → ℕ → Part → TypeNo → Result Converted Refusal
as_texts scene at nodes part texts =
    cond (is_array scene.c (base scene.c (type_of part.tree).no)) (in_place_of scene nodes part.tree (elements_written scene.c texts part.tree)) (refused code.Undefined at)

-- the type text, which a catalogue may lack
abbrev pub text_type : Contents → ℕ → Result TypeNo Refusal
text_type c at = option_map_or Ok (type_named c (codes "text")) (refused code.UnknownType at)

abbrev pub with_text : {A : Type 0} → Scene → ℕ → (TypeNo → Result A Refusal) → Result A Refusal
with_text scene at make = and_then (text_type scene.c at) make

abbrev pub argument : Scene → ℕ → ℕ → Part → Target → Result Converted Refusal
argument scene at nodes part (target.Of type) = converted scene at nodes part (plainly type) Implicit
argument scene at nodes part target.Text = with_text scene at (λ text. converted scene at nodes part (plainly text) Explicit)
argument scene at nodes part target.Written = with_text scene at (as_written scene at nodes part)
argument scene at nodes part target.ElementsWritten =
    with_text scene at (λ text. option_map_or (as_texts scene at nodes part) (array_of scene.c text) (refused code.Undefined at))

abbrev pub none_yet : ℕ → ConvertedAll
none_yet nodes = record { trees = []; nodes = nodes }

abbrev pub with_last : ConvertedAll → Converted → ConvertedAll
with_last before one = record { trees = before.trees ++ one.tree ∷ []; nodes = one.nodes }

-- from left to right, each to its own, behind those that are converted
abbrev pub arguments : Scene → ℕ → ConvertedAll → List Part → List Target → Result ConvertedAll Refusal
arguments scene at before (part ∷ parts) (t ∷ targets) = and_then (argument scene at before.nodes part t) (λ one. arguments scene at (with_last before one) parts targets)
arguments scene at before _ _ = Ok before
