use Rattle.std.proofs.Common.{◌^◌, cond, ap, ◌∙◌, arith}
use Rattle.std.specs.Prelude.{neg_ℤ, pos}
use Rattle.xp_numeric.proofs.Rounded.{fewer_units, twice_zeros}
use Rattle.xp_numeric.proofs.scales.without.Goals as goal

pub returns-clause-value : goal.returns-clause-value
returns-clause-value c =
    let x = c.args.x in
    ap (λ k. cond x.neg (neg_ℤ (pos k)) (pos k))
    (fewer_units x.coef c.power-unit.result x.scale c.args.zeros (c.power-unit.ensures.value ∙ ap (λ k. 10 ^ k) c.from.ensures) c.if-x-zeros.false x.decimals c.if-x-unit-ne0.false)

pub returns-clause-last : goal.returns-clause-last
returns-clause-last c = λ h e.
    c.requires.last (omega arith) (twice_zeros c.args.x.coef c.power-unit.result c.args.zeros (c.power-unit.ensures.value ∙ ap (λ k. 10 ^ k) c.from.ensures) c.if-x-unit-ne0.false e)
