-- The lists of expressions that a statement is over: what they mean, list by list and from left to right, and how they are joined (manual 10.5; the order is this project's own).
use Rattle.std.specs.Prelude.{ℕ, List, [], ◌∷◌, ◌++◌, drop, map, take, Result, Ok}
use Rattle.xp_base.specs.FromLeft.{and_then}
use Rattle.xp_grammar.specs.declared.ast.Ast.{Ast}
use Rattle.xp_grammar.specs.declared.statement.Item.{Item}
use Rattle.xp_grammar.specs.declared.statement.SelectArm.{SelectArm}
use Rattle.xp_grammar.specs.declared.statement.Statement.{Statement}
use Rattle.xp_grammar.specs.declared.statement.Statement.TheVariants.{Select, UnionAll, Values, Describe}
use Rattle.xp_named.specs.declared.refusal.Refusal.{Refusal}
use Rattle.xp_resolve.specs.declared.made.Gathered.{Gathered}
use Rattle.xp_resolve.specs.declared.made.Part.{Part}
use Rattle.xp_resolve.specs.Scene.{Scene}
use Rattle.xp_columns.specs.declared.columns.Table.{Table}
use Rattle.xp_columns.specs.declared.columns.UnionArm.{UnionArm}
use Rattle.xp_columns.specs.Columns.{united, values_made}
use Rattle.xp_expressions.specs.Expressions.{resolved}
use Rattle.xp_expressions.specs.Operands.{begun, each, gathered, nothing_yet}
use Rattle.xp_analyse.specs.declared.gather.Listed.{Listed}

-- ---- the lists

abbrev pub items_of : List Item → List Ast
items_of items = map (λ (item : Item). item.expr) items

-- SELECT and DESCRIBE have one, UNION ALL one an arm
abbrev pub lists_of : Statement → List (List Ast)
lists_of (Select at items) = items_of items ∷ []
lists_of (UnionAll at arms) = map (λ (arm : SelectArm). items_of arm.items) arms
lists_of (Values at lists) = lists
lists_of (Describe at expressions) = expressions ∷ []
lists_of _ = []

-- ---- what their expressions mean

abbrev pub no_lists : Listed
no_lists = record { lists = []; progress = nothing_yet }

abbrev pub with_parts : List (List Part) → Gathered → Listed
with_parts before made = record { lists = before ++ made.parts ∷ []; progress = made.progress }

-- a list, behind those before it
abbrev pub with_list : Scene → List Ast → Listed → Result Listed Refusal
with_list scene expressions before =
    and_then (gathered (Ok (begun before.progress)) (map (resolved scene) expressions)) (λ made. Ok (with_parts before.lists made))

abbrev pub listed : Scene → List (List Ast) → Result Listed Refusal
listed scene lists = each (with_list scene) (Ok no_lists) lists

-- ---- how they are joined

-- the trees of arms, with the place of the UNION before each
abbrev pub arms_over : List SelectArm → List (List Part) → List UnionArm
arms_over (arm ∷ arms) (items ∷ lists) = record { at = arm.at.start; items = items } ∷ arms_over arms lists
arms_over _ _ = []

-- the first arm, and those behind it
abbrev pub arms_united : Scene → List SelectArm → ℕ → List (List Part) → Result Table Refusal
arms_united scene arms nodes lists = united scene (record { lists = take 1 lists; nodes = nodes }) (arms_over (drop 1 arms) (drop 1 lists))

-- by the kind of statement: those of UNION ALL pairwise, those of VALUES all at once, and others stay as they are
abbrev pub joined : Scene → Statement → ℕ → List (List Part) → Result Table Refusal
joined scene (UnionAll at arms) nodes lists = arms_united scene arms nodes lists
joined scene (Values at expressions) nodes lists = values_made scene at.start nodes lists
joined scene _ nodes lists = Ok (record { lists = lists; nodes = nodes })
