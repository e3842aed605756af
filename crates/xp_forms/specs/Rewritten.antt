-- Forms that stand for operators and connectives: BETWEEN, IN, LIKE and ILIKE (manual 9.2, 9.7.1, 9.24.1; that IN goes by halves is this project's own).
use Rattle.std.specs.Prelude.{ℕ, zero, suc, ◌-◌, ◌/◌, List, [], ◌∷◌, Bool, true, false, codes, drop, length, take, Result, Ok}
use Rattle.std.specs.Option.{option_map_or}
use Rattle.xp_base.specs.FromLeft.{and_then}
use Rattle.xp_base.specs.declared.codes.Code.TheVariants as code
use Rattle.xp_base.specs.declared.numbers.TypeNo.{TypeNo}
use Rattle.xp_catalog.specs.Lookups.{type_named}
use Rattle.xp_named.specs.declared.refusal.Refusal.{Refusal}
use Rattle.xp_resolve.specs.declared.conversions.Converted.{Converted}
use Rattle.xp_resolve.specs.declared.made.Gathered.{Gathered}
use Rattle.xp_resolve.specs.declared.made.Made.{Made}
use Rattle.xp_resolve.specs.Made.{refused}
use Rattle.xp_resolve.specs.Operators.{operated}
use Rattle.xp_resolve.specs.Scene.{Scene}
use Rattle.xp_forms.specs.declared.connectives.Connective.{Connective}
use Rattle.xp_forms.specs.declared.connectives.Connective.TheVariants.{And, Or}
use Rattle.xp_forms.specs.Truths.{as_truth}

-- ---- BETWEEN: `a BETWEEN x AND y` is `a >= x AND a <= y`, and NOT BETWEEN `a < x OR a > y`

-- the operator over the operand and the lower bound
abbrev pub lower_operator : Bool → List ℕ
lower_operator false = codes ">="
lower_operator true = codes "<"

-- the operator over the operand and the upper bound
abbrev pub upper_operator : Bool → List ℕ
upper_operator false = codes "<="
upper_operator true = codes ">"

abbrev pub between_connective : Bool → Connective
between_connective false = And
between_connective true = Or

-- ---- IN: `a IN (x, y)` is `a = x OR a = y`, and NOT IN `a <> x AND a <> y`

-- the operator over the operand and a member of the list
abbrev pub member_operator : Bool → List ℕ
member_operator false = codes "="
member_operator true = codes "<>"

abbrev pub in_connective : Bool → Connective
in_connective false = Or
in_connective true = And

-- how many of so many pairs stand in the first half: one more than in the other, where the halves aren't equal
abbrev pub first_half : ℕ → ℕ
first_half count = count - count / 2

-- two or more are the first half and the rest, each made in the same way; `depth` is no less than their number
abbrev pub by_halves : {A : Type 0} → (A → A → A) → A → ℕ → List A → A
by_halves join nothing depth [] = nothing
by_halves join nothing depth (only ∷ []) = only
by_halves join nothing zero (first ∷ second ∷ others) = nothing
by_halves join nothing (suc depth) (first ∷ second ∷ others) =
    let all = first ∷ second ∷ others in
    join (by_halves join nothing depth (take (first_half (length all)) all)) (by_halves join nothing depth (drop (first_half (length all)) all))

-- ---- what an operator answers, where a form stands for it alone

abbrev pub judged_as : Scene → ℕ → Made → TypeNo → Result Made Refusal
judged_as scene at made bool =
    and_then (as_truth scene at made.progress.nodes bool made.part) (λ (a : Converted).
    Ok (record { part = record { tree = a.tree; at = at }; progress = record { nodes = a.nodes; uses = made.progress.uses } }))

-- it has to be a truth value: LIKE, and IN of one member
abbrev pub judged : Scene → ℕ → Made → Result Made Refusal
judged scene at made = option_map_or (judged_as scene at made) (type_named scene.c (codes "bool")) (refused code.NotBoolean at)

-- ---- LIKE and ILIKE

-- NOT or not, in any case or not
abbrev pub like_operator : Bool → Bool → List ℕ
like_operator false false = codes "~~"
like_operator true false = codes "!~~"
like_operator false true = codes "~~*"
like_operator true true = codes "!~~*"

abbrev pub liked : Scene → Bool → Bool → ℕ → ℕ → Gathered → Result Made Refusal
liked scene negated any_case at before operands =
    and_then (operated scene at (like_operator negated any_case) before operands) (judged scene at)
