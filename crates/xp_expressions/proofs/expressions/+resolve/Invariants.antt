use Rattle.std.proofs.Common.{ℕ, ◌+◌, ◌*◌, ◌^◌, List, Option, drop, length, map, max, Ok, Result}
use Rattle.std.specs.Option.{option_map_or}
use Rattle.xp_grammar.specs.declared.ast.Ast.{Ast, size-Ast}
use Rattle.std.specs.Prelude.{IfOk, option_map}
use Rattle.xp_forms.specs.inner.Arms.{AreResolved}
use Rattle.xp_resolve.specs.inner.Sources.{AreSources}
use Rattle.xp_expressions.specs.Branches.{arms, no_arms, with_arm}
use Rattle.xp_expressions.specs.Expressions.{resolved}
use Rattle.xp_expressions.specs.Operands.{begun, gathered, with_operand}
use Rattle.xp_expressions.specs.inner.Arms.{branch_of}
use Rattle.xp_expressions.proofs.Gathering.{Behind}
use Rattle.xp_expressions.proofs.expressions.+resolve.Given as goal

-- the operands so far are what the definition says of them, and with the others what it says of all
abbrev pub invariant-gather-operands : goal.invariant-gather-operands
invariant-gather-operands l = record {
  sources : IfOk l.all (λ g. AreSources l.scene.c g.parts);
  says : Behind with_operand (gathered (Ok (begun l.fn.progress)) (map (resolved l.scene) l.operands)) l.all (map (resolved l.scene) (drop l.operand-index l.operands));
}

-- the arms likewise
abbrev pub invariant-arms_of-arms : goal.invariant-arms_of-arms
invariant-arms_of-arms l = record {
  are_resolved : IfOk l.all (λ made. AreResolved l.scene.c made.whens);
  says : Behind (with_arm l.scene (option_map (resolved l.scene) l.operand)) (arms l.scene (option_map (resolved l.scene) l.operand) (Ok (no_arms l.fn.progress)) (map (branch_of l.scene) l.arms)) l.all (map (branch_of l.scene) (drop l.arm-index l.arms));
}

-- ---- measures: how deep the expression is, and then how far a function is from `resolve`

abbrev deep : ℕ → ℕ
deep level = 2 ^ 72 * level

abbrev part : Option Ast → ℕ
part x = option_map_or size-Ast x 0

abbrev pub decreases-resolve : goal.decreases-resolve
decreases-resolve l = deep (goal.size-resolve l)

abbrev pub decreases-with_operand : goal.decreases-with_operand
decreases-with_operand l = deep (goal.size-with_operand l) + 1

abbrev pub decreases-first : goal.decreases-first
decreases-first l = deep (goal.size-first l) + 2

abbrev pub decreases-pair : goal.decreases-pair
decreases-pair l = deep (max (goal.size-pair l) (size-Ast l.right.now)) + 3

abbrev pub decreases-both : goal.decreases-both
decreases-both l = deep (max (goal.size-both l) (size-Ast l.right.now)) + 1

abbrev pub decreases-with_optional : goal.decreases-with_optional
decreases-with_optional l = deep (goal.size-with_optional l) + 2

abbrev pub decreases-with_place : goal.decreases-with_place
decreases-with_place l = deep (goal.size-with_place l) + 2

abbrev pub decreases-gather : goal.decreases-gather
decreases-gather l = deep (goal.size-gather l) + 2

abbrev pub decreases-operation : goal.decreases-operation
decreases-operation l = deep (max (goal.size-operation l) (size-Ast l.right.now)) + 4

abbrev pub decreases-bounds : goal.decreases-bounds
decreases-bounds l = deep (max (goal.size-bounds l) (max (size-Ast l.low.now) (size-Ast l.high.now))) + 5

abbrev pub decreases-between : goal.decreases-between
decreases-between l = deep (max (goal.size-between l) (max (size-Ast l.low.now) (size-Ast l.high.now))) + 6

abbrev pub decreases-both_halves : goal.decreases-both_halves
decreases-both_halves l = deep (max (goal.size-both_halves l) (size-Ast l.operand.now)) + (16 * length l.list.now + 5)

abbrev pub decreases-halves : goal.decreases-halves
decreases-halves l = deep (max (goal.size-halves l) (size-Ast l.operand.now)) + (16 * length l.list.now + 6)

abbrev pub decreases-inside : goal.decreases-inside
decreases-inside l = deep (max (goal.size-inside l) (size-Ast l.operand.now)) + (16 * length l.list.now + 7)

abbrev pub decreases-condition : goal.decreases-condition
decreases-condition l = deep (max (goal.size-condition l) (part l.operand.now)) + 5

abbrev pub decreases-arm_made : goal.decreases-arm_made
decreases-arm_made l = deep (max (goal.size-arm_made l) (part l.operand.now)) + 6

abbrev pub decreases-with_arm : goal.decreases-with_arm
decreases-with_arm l = deep (max (goal.size-with_arm l) (part l.operand.now)) + 7

abbrev pub decreases-arms_of : goal.decreases-arms_of
decreases-arms_of l = deep (max (goal.size-arms_of l) (part l.operand.now)) + 8

abbrev pub decreases-or_null : goal.decreases-or_null
decreases-or_null l = deep (goal.size-or_null l) + 1

abbrev pub decreases-choice : goal.decreases-choice
decreases-choice l = deep (max (goal.size-choice l) (max (part l.operand.now) (part l.otherwise.now))) + 9

abbrev pub decreases-cast : goal.decreases-cast
decreases-cast l = deep (goal.size-cast l) + 1
