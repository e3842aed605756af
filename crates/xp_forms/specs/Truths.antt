-- Operands that are truth values (manual 4.2, 8.6, 9.1).
use Rattle.std.specs.Prelude.{ℕ, Bool, ◌||◌, not, cond, codes, Result, Ok}
use Rattle.std.specs.Option.{option_map_or}
use Rattle.xp_base.specs.declared.codes.Code.TheVariants as code
use Rattle.xp_base.specs.declared.numbers.TypeNo.{TypeNo}
use Rattle.xp_catalog.specs.declared.rows.Context.TheVariants.{Implicit}
use Rattle.xp_catalog.specs.Contents.{Contents}
use Rattle.xp_catalog.specs.Lookups.{type_named}
use Rattle.xp_types.specs.Readers.{base, is_known, is_same}
use Rattle.xp_tree.specs.Term.{type_of}
use Rattle.xp_named.specs.declared.refusal.Refusal.{Refusal}
use Rattle.xp_resolve.specs.declared.conversions.Converted.{Converted}
use Rattle.xp_resolve.specs.declared.made.Part.{Part}
use Rattle.xp_resolve.specs.Conversions.{converted, plainly}
use Rattle.xp_resolve.specs.Made.{refused}
use Rattle.xp_resolve.specs.Scene.{Scene}

-- the type bool, which a catalogue may lack
abbrev pub bool_type : Contents → ℕ → Result TypeNo Refusal
bool_type c at = option_map_or Ok (type_named c (codes "bool")) (refused code.UnknownType at)

-- a type counts as bool where it is bool or a domain over it; what has no type yet is read as bool
abbrev pub may_be_truth : Contents → TypeNo → TypeNo → Bool
may_be_truth c bool type = not (is_known type) || is_same (base c type) bool

-- the operand as a truth value; any other is refused where a truth value is asked for
abbrev pub as_truth : Scene → ℕ → ℕ → TypeNo → Part → Result Converted Refusal
as_truth scene at nodes bool part =
    cond (may_be_truth scene.c bool (type_of part.tree).no) (converted scene at nodes part (plainly bool) Implicit) (refused code.NotBoolean at)
