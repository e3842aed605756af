use Rattle.std.proofs.Common.{arith, sym, ◌∙◌}
use Rattle.xp_types.proofs.Built.{array_behind, has_behind, no_array, no_behind, over_is}
use Rattle.xp_types.proofs.readers.array_of.Goals as goal
use Rattle.xp_types.proofs.readers.array_of.Goals.{else-behind-count-via-then-behind-count+else-is_array_over, else-behind-count-via-else-behind-count}

pub overflow_add-behind : goal.overflow_add-behind
overflow_add-behind c = omega (arith, c.requires, c.counts-count.ensures.rules.known.few.types)

pub returns-then-is_array_over-clause-value : goal.returns-then-is_array_over-clause-value
returns-then-is_array_over-clause-value c = sym (array_behind c.args.c.now c.args.ty c.counts-count.ensures.rules (sym c.if-is_array_over.ensures))

pub returns-then-is_array_over-clause-present : goal.returns-then-is_array_over-clause-present
returns-then-is_array_over-clause-present c = sym (has_behind c.args.c.now c.args.ty c.counts-count.ensures.rules c.requires (sym c.if-is_array_over.ensures))

pub returns-else-behind-count-clause-value : goal.returns-else-behind-count-clause-value
returns-else-behind-count-clause-value c = sym (no_array c.args.c.now c.args.ty c.counts-count.ensures.rules (elim c.else-behind-count.branch [
  | else-behind-count-via-then-behind-count+else-is_array_over w ↦ λ within. sym w.is_array_over.ensures ∙ w.if-is_array_over.false
  | else-behind-count-via-else-behind-count w ↦ λ within. absurd (omega (arith, within, w.if-behind-count.false, c.counts-count.ensures.types))
]))

pub returns-else-behind-count-clause-present : goal.returns-else-behind-count-clause-present
returns-else-behind-count-clause-present c = sym (no_behind c.args.c.now c.args.ty c.counts-count.ensures.rules c.requires (elim c.else-behind-count.branch [
  | else-behind-count-via-then-behind-count+else-is_array_over w ↦ λ within. sym w.is_array_over.ensures ∙ w.if-is_array_over.false
  | else-behind-count-via-else-behind-count w ↦ λ within. absurd (omega (arith, within, w.if-behind-count.false, c.counts-count.ensures.types))
]))

pub returns-then-is_array_over-clause-element : goal.returns-then-is_array_over-clause-element
returns-then-is_array_over-clause-element c = over_is c.args.ty _ (sym c.if-is_array_over.ensures)
