-- What analysis makes of a statement: the trees of its expressions, their types and the overloads that are chosen, or the first refusal (manual 4.2, 10; the order is this project's own).
use Rattle.std.specs.Prelude.{ℕ, List, [], ◌∷◌, ◌++◌, Bool, true, false, cond, map, Option, Some, None, Result, Ok}
use Rattle.std.specs.Option.{option_map_or, option_or}
use Rattle.xp_base.specs.FromLeft.{and_then}
use Rattle.xp_base.specs.declared.codes.Code.TheVariants as code
use Rattle.xp_base.specs.declared.numbers.TypeNo.{TypeNo}
use Rattle.xp_call.specs.Calls.{is_built}
use Rattle.xp_catalog.specs.declared.header.HeaderColumn.{HeaderColumn}
use Rattle.xp_catalog.specs.declared.rows.Context.TheVariants.{Implicit, Assignment}
use Rattle.xp_catalog.specs.Contents.{Contents}
use Rattle.xp_grammar.specs.declared.ast.Ast.{Ast}
use Rattle.xp_grammar.specs.declared.statement.Statement.{Statement}
use Rattle.xp_grammar.specs.declared.statement.Statement.TheVariants.{Select, UnionAll, Values, Store, Describe, Explain, ExplainAnalyze}
use Rattle.xp_grammar.specs.declared.types.TypeWords.{TypeWords}
use Rattle.xp_meaning.specs.Evaluable.{is_evaluable}
use Rattle.xp_named.specs.Named.{named_type}
use Rattle.xp_named.specs.declared.refusal.Refusal.{Refusal}
use Rattle.xp_tree.specs.declared.checks.DomainCheck.{DomainCheck}
use Rattle.xp_tree.specs.Term.{Term, type_of}
use Rattle.xp_types.specs.Readers.{is_known}
use Rattle.xp_resolve.specs.declared.conversions.Converted.{Converted}
use Rattle.xp_resolve.specs.declared.conversions.ConvertedAll.{ConvertedAll}
use Rattle.xp_resolve.specs.declared.made.Made.{Made}
use Rattle.xp_resolve.specs.declared.made.Part.{Part}
use Rattle.xp_resolve.specs.declared.typed.Use.{Use}
use Rattle.xp_resolve.specs.Conversions.{converted, none_yet, plainly, with_last, with_text}
use Rattle.xp_resolve.specs.Made.{refused}
use Rattle.xp_resolve.specs.Scene.{Scene}
use Rattle.xp_columns.specs.declared.columns.Table.{Table}
use Rattle.xp_expressions.specs.Expressions.{resolved}
use Rattle.xp_expressions.specs.Operands.{each, nothing_yet}
use Rattle.xp_analyse.specs.declared.settle.SettledLists.{SettledLists}
use Rattle.xp_analyse.specs.declared.typed.Typed.{Typed}
use Rattle.xp_analyse.specs.Begins.{first_of}
use Rattle.xp_analyse.specs.Lists.{joined, listed, lists_of}
use Rattle.xp_analyse.specs.Untyped.{left_behind, some_left, untyped, without_text}

-- ---- statements

abbrev pub place_of : Statement → ℕ
place_of (Select at items) = at.start
place_of (UnionAll at arms) = at.start
place_of (Values at lists) = at.start
place_of (Store at words source) = at.start
place_of (Describe at expressions) = at.start
place_of (Explain at expression) = at.start
place_of (ExplainAnalyze at expression) = at.start

-- whether the trees are to be evaluated
abbrev pub is_evaluated : Statement → Bool
is_evaluated (Describe at expressions) = false
is_evaluated _ = true

-- whether each row is gone through; the lists of VALUES give one row each
abbrev pub is_over_rows : Statement → Bool
is_over_rows (Values at lists) = false
is_over_rows _ = true

-- VALUES sees no columns
abbrev pub columns_seen : Statement → List HeaderColumn → List HeaderColumn
columns_seen (Values at lists) columns = []
columns_seen _ columns = columns

-- ---- what is left unknown becomes text, once all expressions are there (manual 10.6)

abbrev pub settled_part : Scene → ℕ → Part → Result Converted Refusal
settled_part scene nodes part =
    cond (is_known (type_of part.tree).no) (Ok (record { tree = part.tree; nodes = nodes })) (
    with_text scene part.at (λ text. converted scene part.at nodes part (plainly text) Implicit))

-- from left to right, behind those that are done
abbrev pub settled : Scene → ConvertedAll → List Part → Result ConvertedAll Refusal
settled scene before [] = Ok before
settled scene before (part ∷ parts) = and_then (settled_part scene before.nodes part) (λ one. settled scene (with_last before one) parts)

abbrev pub with_settled : Scene → List Part → SettledLists → Result SettledLists Refusal
with_settled scene parts before = and_then (settled scene (none_yet before.nodes) parts) (λ all. Ok (record { lists = before.lists ++ all.trees ∷ []; nodes = all.nodes }))

-- list by list
abbrev pub all_settled : Scene → Table → Result SettledLists Refusal
all_settled scene table = each (with_settled scene) (Ok (record { lists = []; nodes = table.nodes })) table.lists

-- ---- what is to be evaluated must have values and bodies

-- where the first expression begins that has no body, or has a type whose values aren't represented
abbrev pub first_unready : List Ast → List Term → Option ℕ
first_unready (e ∷ expressions) (t ∷ trees) = cond (is_evaluable is_built t) (first_unready expressions trees) (Some (first_of e))
first_unready _ _ = None

-- list by list
abbrev pub some_unready : List (List Ast) → List (List Term) → Option ℕ
some_unready (expressions ∷ lists) (trees ∷ others) = option_or (first_unready expressions trees) (some_unready lists others)
some_unready _ _ = None

abbrev pub unless_unready : Bool → List (List Ast) → List (List Term) → Result (List (List Term)) Refusal
unless_unready false lists trees = Ok trees
unless_unready true lists trees = option_map_or (refused code.NoBody) (some_unready lists trees) (Ok trees)

-- ---- the whole

abbrev pub types_of : List Term → List TypeNo
types_of trees = map (λ t. (type_of t).no) trees

-- of the columns that the statement gives
abbrev pub column_types : List (List Term) → List TypeNo
column_types [] = []
column_types (trees ∷ lists) = types_of trees

-- an arm for each list
abbrev pub typed_of : Bool → List Use → List (List Term) → Typed
typed_of over_rows uses lists = record {
  types = column_types lists;
  arms = map (λ trees. record { trees = trees; over_rows = over_rows }) lists;
  uses = uses;
}

abbrev pub readied : Statement → List Use → List (List Term) → Result Typed Refusal
readied s uses lists = and_then (unless_unready (is_evaluated s) (lists_of s) lists) (λ ready. Ok (typed_of (is_over_rows s) uses ready))

-- the expressions, then how their lists are joined, then what is left unknown, which needs the type text, then what can't be evaluated
abbrev pub analysed_lists : Scene → Statement → Result Typed Refusal
analysed_lists scene s =
    and_then (listed scene (lists_of s)) (λ made.
    and_then (joined scene s made.progress.nodes made.lists) (λ table.
    option_map_or (refused code.UnknownType) (without_text scene.c (some_left (lists_of s)))
    (and_then (all_settled scene table) (λ all. readied s made.progress.uses all.lists))))

-- ---- STORE: the source, then the type, then the value as one that is assigned to it (manual 10.4)

-- literals and NULL are read as the type; no path to it is refused where the type begins
abbrev pub assigned : Scene → TypeWords → ℕ → Part → Result Converted Refusal
assigned scene words nodes part = and_then (named_type scene.c words) (λ named. converted scene words.at.start nodes part named Assignment)

abbrev pub stored_as : Ast → List Use → Term → Result Typed Refusal
stored_as source uses t = cond (is_evaluable is_built t) (Ok (typed_of true uses ((t ∷ []) ∷ []))) (refused code.NoBody (first_of source))

abbrev pub stored_from : Scene → TypeWords → Ast → Made → Result Typed Refusal
stored_from scene words source made =
    and_then (assigned scene words made.progress.nodes made.part) (λ one.
    option_map_or (refused code.UnknownType) (without_text scene.c (left_behind (untyped source))) (stored_as source made.progress.uses one.tree))

abbrev pub stored : Scene → TypeWords → Ast → Result Typed Refusal
stored scene words source = and_then (resolved scene source nothing_yet) (stored_from scene words source)

-- ---- by the kind of statement

abbrev pub analysed_in : Scene → Statement → Result Typed Refusal
analysed_in scene (Store at words source) = stored scene words source
analysed_in scene (Explain at expression) = refused code.NotBuilt scene.start
analysed_in scene (ExplainAnalyze at expression) = refused code.NotBuilt scene.start
analysed_in scene s = analysed_lists scene s

abbrev pub scene_of : Contents → List DomainCheck → List HeaderColumn → Statement → Scene
scene_of c checks columns s = record { c = c; checks = checks; columns = columns_seen s columns; value = None; start = place_of s }

unfoldable pub analysed : Contents → List DomainCheck → List HeaderColumn → Statement → Result Typed Refusal
analysed c checks columns s = analysed_in (scene_of c checks columns s) s
