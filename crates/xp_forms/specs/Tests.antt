-- The tests IS [NOT] NULL, TRUE, FALSE and UNKNOWN, ISNULL and NOTNULL among them (manual 9.2).
use Rattle.std.specs.Prelude.{ℕ, Bool, true, false, cond, codes, Result, Ok}
use Rattle.std.specs.Option.{option_map_or}
use Rattle.xp_base.specs.FromLeft.{and_then}
use Rattle.xp_base.specs.declared.numbers.TypeNo.{TypeNo}
use Rattle.xp_catalog.specs.declared.rows.Context.TheVariants.{Implicit}
use Rattle.xp_catalog.specs.Lookups.{type_named}
use Rattle.xp_grammar.specs.declared.ast.TruthTest.{TruthTest}
use Rattle.xp_grammar.specs.declared.ast.TruthTest.TheVariants.{Null, True, False, Unknown}
use Rattle.xp_types.specs.Readers.{is_known}
use Rattle.xp_tree.specs.declared.parts.NodeType.{NodeType}
use Rattle.xp_tree.specs.Term.{One, Term, is_false, is_null, is_true, is_unknown, negation, one, type_of}
use Rattle.xp_named.specs.declared.refusal.Refusal.{Refusal}
use Rattle.xp_coerce.specs.Types.{node_type}
use Rattle.xp_resolve.specs.declared.conversions.Converted.{Converted}
use Rattle.xp_resolve.specs.declared.made.Made.{Made}
use Rattle.xp_resolve.specs.declared.made.Part.{Part}
use Rattle.xp_resolve.specs.Conversions.{converted, plainly}
use Rattle.xp_resolve.specs.Made.{finished}
use Rattle.xp_resolve.specs.Scene.{Scene}
use Rattle.xp_forms.specs.Truths.{as_truth, bool_type}

abbrev pub testing : TruthTest → One
testing Null = is_null
testing True = is_true
testing False = is_false
testing Unknown = is_unknown

-- IS NOT is NOT over the test
abbrev pub with_not : Bool → NodeType → Term → Term
with_not true ty t = one negation t ty
with_not false ty t = t

abbrev pub as_it_stands : ℕ → Part → Converted
as_it_stands nodes part = record { tree = part.tree; nodes = nodes }

-- a value of any type; what has no type yet is a text, where the catalogue has that type
abbrev pub any_value : Scene → ℕ → Part → Result Converted Refusal
any_value scene nodes part =
    cond (is_known (type_of part.tree).no) (Ok (as_it_stands nodes part)) (
    option_map_or (λ text. converted scene part.at nodes part (plainly text) Implicit) (type_named scene.c (codes "text")) (Ok (as_it_stands nodes part)))

-- IS NULL takes a value of any type, the others a truth value
abbrev pub subject : Scene → TruthTest → ℕ → ℕ → TypeNo → Part → Result Converted Refusal
subject scene Null at nodes bool part = any_value scene nodes part
subject scene True at nodes bool part = as_truth scene at nodes bool part
subject scene False at nodes bool part = as_truth scene at nodes bool part
subject scene Unknown at nodes bool part = as_truth scene at nodes bool part

-- a test, beside trees of `before` nodes
abbrev pub tested : Scene → TruthTest → Bool → ℕ → ℕ → Made → Result Made Refusal
tested scene test negated at before operand =
    and_then (bool_type scene.c at) (λ bool.
    and_then (subject scene test at operand.progress.nodes bool operand.part) (λ a.
    finished scene at before operand.progress.uses (with_not negated (node_type scene.c bool) (one (testing test) a.tree (node_type scene.c bool)))))
