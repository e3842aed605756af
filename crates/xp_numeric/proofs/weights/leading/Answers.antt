use Rattle.std.proofs.Common.{◌+◌, ◌-◌, ◌*◌, ◌/◌, sym, ap, ◌∙◌, arith}
use Rattle.xp_numeric.proofs.Leading.{weight_is, digit_is, digit_behind, digit_before}
use Rattle.xp_numeric.proofs.weights.leading.Goals as goal

pub returns-then-place-decimals-clause-weight : goal.returns-then-place-decimals-clause-weight
returns-then-place-decimals-clause-weight c =
    weight_is c.args.x c.ilog10.result (40 - c.from-decimals.result) c.if-x-eq0.false (ap (λ k. 40 - k) c.from-decimals.ensures) c.ilog10.ensures.power_le c.ilog10.ensures.next_power_gt

pub returns-then-place-decimals-clause-digit : goal.returns-then-place-decimals-clause-digit
returns-then-place-decimals-clause-digit c =
    let d = 40 - c.from-decimals.result in
    let low = 4 * ((c.ilog10.result + d) / 4) in
    ap (λ k. c.args.x.coef * k) c.power.ensures.value
    ∙ sym (digit_behind c.args.x.coef d low (omega arith))
    ∙ digit_is c.args.x c.ilog10.result d (ap (λ k. 40 - k) c.from-decimals.ensures) c.ilog10.ensures.power_le c.ilog10.ensures.next_power_gt

pub returns-else-place-decimals-clause-weight : goal.returns-else-place-decimals-clause-weight
returns-else-place-decimals-clause-weight c =
    weight_is c.args.x c.ilog10.result (40 - c.from-decimals.result) c.if-x-eq0.false (ap (λ k. 40 - k) c.from-decimals.ensures) c.ilog10.ensures.power_le c.ilog10.ensures.next_power_gt

pub returns-else-place-decimals-clause-digit : goal.returns-else-place-decimals-clause-digit
returns-else-place-decimals-clause-digit c =
    let d = 40 - c.from-decimals.result in
    let low = 4 * ((c.ilog10.result + d) / 4) in
    ap (λ k. c.args.x.coef / k) c.power-else-place-decimals.ensures.value
    ∙ sym (digit_before c.args.x.coef d low (omega arith))
    ∙ digit_is c.args.x c.ilog10.result d (ap (λ k. 40 - k) c.from-decimals.ensures) c.ilog10.ensures.power_le c.ilog10.ensures.next_power_gt
