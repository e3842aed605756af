-- Lists of items whose columns each come to one type: the lists of VALUES, and the arms of UNION ALL (manual 10.5).
use Rattle.std.specs.Prelude.{ℕ, ◌==◌, List, [], ◌∷◌, ◌++◌, Bool, cond, length, map, replicate, Result, Ok}
use Rattle.std.specs.List.{list_all}
use Rattle.xp_base.specs.FromLeft.{and_then}
use Rattle.xp_base.specs.declared.codes.Code.TheVariants as code
use Rattle.xp_base.specs.declared.numbers.TypeNo.{TypeNo}
use Rattle.xp_tree.specs.Term.{Term}
use Rattle.xp_named.specs.declared.refusal.Refusal.{Refusal}
use Rattle.xp_resolve.specs.declared.made.Part.{Part}
use Rattle.xp_resolve.specs.Calls.{types_of}
use Rattle.xp_resolve.specs.Made.{refused}
use Rattle.xp_resolve.specs.Scene.{Scene}
use Rattle.xp_columns.specs.declared.columns.Column.{Column}
use Rattle.xp_columns.specs.declared.columns.Inputs.{Inputs}
use Rattle.xp_columns.specs.declared.columns.Inputs.TheVariants.{All, Ends}
use Rattle.xp_columns.specs.declared.columns.Table.{Table}
use Rattle.xp_columns.specs.declared.columns.UnionArm.{UnionArm}
use Rattle.xp_forms.specs.Common.{alike, common_type}

-- ---- lists as columns

-- each item behind those of its column
abbrev pub with_list : List (List Part) → List Part → List (List Part)
with_list (column ∷ columns) (x ∷ xs) = (column ++ x ∷ []) ∷ with_list columns xs
with_list _ _ = []

-- lists from left to right, behind what stands in the columns
abbrev pub with_lists : List (List Part) → List (List Part) → List (List Part)
with_lists columns [] = columns
with_lists columns (list ∷ lists) = with_lists (with_list columns list) lists

-- lists of so many items as columns, and columns of so many items as lists
abbrev pub turned : ℕ → List (List Part) → List (List Part)
turned width lists = with_lists (replicate width []) lists

abbrev pub width_of : List (List Part) → ℕ
width_of [] = 0
width_of (list ∷ lists) = length list

abbrev pub are_as_long : List (List Part) → Bool
are_as_long lists = list_all (λ list. length list == width_of lists) lists

-- ---- one column

abbrev pub last_of : TypeNo → List TypeNo → TypeNo
last_of type [] = type
last_of type (next ∷ types) = last_of next types

-- the first and the last
abbrev pub ends : List TypeNo → List TypeNo
ends (first ∷ next ∷ types) = first ∷ last_of next types ∷ []
ends types = types

-- the inputs of a column's common type: its items all at once, or the arms so far, which are of one type already, with the next arm
abbrev pub inputs_of : Inputs → List TypeNo → List TypeNo
inputs_of All types = types
inputs_of Ends types = ends types

abbrev pub parts_of : ℕ → List Term → List Part
parts_of at trees = map (λ t. record { tree = t; at = at }) trees

abbrev pub column_as : Scene → ℕ → ℕ → List Part → TypeNo → Result Column Refusal
column_as scene at nodes parts type = and_then (alike scene at nodes type parts) (λ all. Ok (record { parts = parts_of at all.trees; nodes = all.nodes }))

abbrev pub column_from : Scene → ℕ → ℕ → List Part → List TypeNo → Result Column Refusal
column_from scene at nodes parts inputs = and_then (common_type scene.c at inputs) (column_as scene at nodes parts)

-- the items of a column, all converted to its type
abbrev pub column_made : Scene → Inputs → ℕ → ℕ → List Part → Result Column Refusal
column_made scene inputs at nodes parts = column_from scene at nodes parts (inputs_of inputs (types_of parts))

-- ---- all columns

abbrev pub with_column : Scene → Inputs → ℕ → Table → List Part → Result Table Refusal
with_column scene inputs at before parts =
    and_then (column_made scene inputs at before.nodes parts) (λ (column : Column). Ok (record { lists = before.lists ++ column.parts ∷ []; nodes = column.nodes }))

-- from left to right, behind those that are made
abbrev pub columns_made : Scene → Inputs → ℕ → Table → List (List Part) → Result Table Refusal
columns_made scene inputs at before [] = Ok before
columns_made scene inputs at before (column ∷ columns) = and_then (with_column scene inputs at before column) (λ next. columns_made scene inputs at next columns)

abbrev pub no_columns : ℕ → Table
no_columns nodes = record { lists = []; nodes = nodes }

abbrev pub table_over : Scene → Inputs → ℕ → ℕ → List (List Part) → Result Table Refusal
table_over scene inputs at nodes lists =
    and_then (columns_made scene inputs at (no_columns nodes) (turned (width_of lists) lists)) (λ (all : Table). Ok (record { lists = turned (length lists) all.lists; nodes = all.nodes }))

-- lists of unequal lengths are refused first
abbrev pub table_made : Scene → Inputs → ℕ → ℕ → List (List Part) → Result Table Refusal
table_made scene inputs at nodes lists = cond (are_as_long lists) (table_over scene inputs at nodes lists) (refused code.Mismatch at)

-- ---- VALUES and UNION ALL

-- VALUES: each column over all lists at once
abbrev pub values_made : Scene → ℕ → ℕ → List (List Part) → Result Table Refusal
values_made scene at nodes lists = table_made scene All at nodes lists

-- the arms so far, and the next one
abbrev pub arm_joined : Scene → Table → UnionArm → Result Table Refusal
arm_joined scene before arm = table_made scene Ends arm.at before.nodes (before.lists ++ arm.items ∷ [])

-- UNION ALL: pairwise from the left
abbrev pub united : Scene → Table → List UnionArm → Result Table Refusal
united scene before [] = Ok before
united scene before (arm ∷ arms) = and_then (arm_joined scene before arm) (λ next. united scene next arms)
