use Rattle.std.proofs.Common.{sym, ap, ◌∙◌, ◌-◌, ◌*◌, ◌^◌}
use Rattle.std.specs.Prelude.{◌+ℤ◌, not}
use Rattle.xp_numeric.specs.Numbers.{at, made}
use Rattle.xp_numeric.proofs.SignedSizes.{sum_is, one_stays, neg_signed}
use Rattle.xp_numeric.proofs.sums.sub_numeric.Goals as goal

pub returns : goal.returns
returns c =
    let a = c.args.a in
    let b = c.args.b in
    let s = c.max-scale.result in
    rw (← c.max-scale.ensures) (sum_is a.neg (not b.neg) _ _ _ _ s c.signed_sum.result c.aligned.ensures c.aligned-2.ensures
    (one_stays a.coef b.coef a.scale b.scale s c.max-scale.ensures a.digits b.digits) c.signed_sum.ensures
    ∙ ap (λ z. made (at s a +ℤ z) s) (sym (neg_signed b.neg (b.coef * 10 ^ (s - b.scale)))))
