use Rattle.std.proofs.Common.{sym, ap, ◌∙◌, ◌+◌, ◌*◌}
use Rattle.xp_numeric.specs.Arithmetic.{differ}
use Rattle.xp_numeric.specs.Numbers.{made, signed}
use Rattle.xp_numeric.proofs.Limited.{made_capped}
use Rattle.xp_numeric.proofs.SignedSizes.{signed_times}
use Rattle.xp_numeric.proofs.sums.mul_numeric.Goals as goal

pub returns : goal.returns
returns c =
    let a = c.args.a in
    let b = c.args.b in
    c.made.ensures
    ∙ ap (λ t. made (signed (differ a.neg b.neg) c.saturating_mul-size.result) t) c.from.ensures
    ∙ ap (λ k. made (signed (differ a.neg b.neg) k) (a.scale + b.scale)) c.saturating_mul-size.ensures
    ∙ made_capped (differ a.neg b.neg) (a.coef * b.coef) (a.scale + b.scale)
    ∙ ap (λ z. made z (a.scale + b.scale)) (sym (signed_times a.neg b.neg a.coef b.coef))
