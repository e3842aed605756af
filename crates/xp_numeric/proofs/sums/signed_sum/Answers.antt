use Rattle.xp_numeric.proofs.SignedSizes.{same_signs}
use Rattle.xp_numeric.proofs.sums.signed_sum.Goals as goal

pub returns-then-neg-other_neg : goal.returns-then-neg-other_neg
returns-then-neg-other_neg c =
    same_signs c.args.neg c.args.other_neg c.args.size c.args.other c.saturating_add.result c.args.scale c.from-scale.result c.made.result
    c.if-neg-other_neg.true c.from-scale.ensures c.saturating_add.ensures c.made.ensures
