use Rattle.std.proofs.Common.{◌≡◌, ◌∙◌, arith, false, sym, true}
use Rattle.xp_types.specs.Readers.{is_same}
use Rattle.xp_poly.proofs.Ranges.{over_here, over_later}
use Rattle.xp_poly.proofs.bound.range_over.Goals as goal

pub returns-then-range-ty-clause-value : goal.returns-then-range-ty-clause-value
returns-then-range-ty-clause-value c =
    let same : is_same c.range_row-range.result.now.subtype c.args.ty ≡ true = grind (arith, c.if-range-ty.true) in
    sym (over_here c.args.ty c.args.c.now.ranges c.loop-row.row c.range_row-range.result.now c.range_row-range.ensures.row same) ∙ c.loop-row.invariant

pub loop-row-preserved : goal.loop-row-preserved
loop-row-preserved c =
    let other : is_same c.range_row-range.result.now.subtype c.args.ty ≡ false = grind (arith, c.if-range-ty.false) in
    sym (over_later c.args.ty c.args.c.now.ranges c.loop-row.row c.range_row-range.result.now c.range_row-range.ensures.row other) ∙ c.loop-row.invariant
