use Rattle.xp_numeric.proofs.SignedSizes.{sum_is, one_stays}
use Rattle.xp_numeric.proofs.sums.add_numeric.Goals as goal

pub returns : goal.returns
returns c =
    let a = c.args.a in
    let b = c.args.b in
    rw (← c.max-scale.ensures) (sum_is a.neg b.neg _ _ _ _ c.max-scale.result c.signed_sum.result c.aligned.ensures c.aligned-2.ensures
    (one_stays a.coef b.coef a.scale b.scale c.max-scale.result c.max-scale.ensures a.digits b.digits) c.signed_sum.ensures)
