use Rattle.std.proofs.Common.{◌≡◌, cond, None, Some, subst, sym}
use Rattle.xp_overload.specs.Places.{kept, slots_at}
use Rattle.xp_overload.specs.Categories.{column, shared_category}
use Rattle.xp_overload.proofs.Survivors.{shared_by}
use Rattle.xp_overload.proofs.demands.shared_category.Goals as goal

pub returns-then-any_slot : goal.returns-then-any_slot
returns-then-any_slot c =
    let slots = column (slots_at c.args.candidates.now) c.args.position (kept c.args.keep.now) in
    subst (λ any. cond any None (Some c.in_ok-first.first.category) ≡ shared_category slots) c.if-any_slot.true (shared_by slots c.in_ok-first.first c.any_slot.result (sym c.in_ok-first.ensures) c.any_slot.ensures)

pub returns-else-any_slot : goal.returns-else-any_slot
returns-else-any_slot c =
    let slots = column (slots_at c.args.candidates.now) c.args.position (kept c.args.keep.now) in
    subst (λ any. cond any None (Some c.in_ok-first.first.category) ≡ shared_category slots) c.if-any_slot.false (shared_by slots c.in_ok-first.first c.any_slot.result (sym c.in_ok-first.ensures) c.any_slot.ensures)
