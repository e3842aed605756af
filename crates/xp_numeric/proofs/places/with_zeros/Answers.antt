use Rattle.std.proofs.Common.{false, ◌+◌, ◌-◌, ◌*◌, ◌^◌, ◌<◌, min, sym, ap, ◌∙◌, arith}
use Rattle.std.proofs.Math.Nat.{zero-mul}
use Rattle.xp_numeric.specs.Numbers.{made, signed}
use Rattle.xp_numeric.specs.inner.Dividing.{division}
use Rattle.xp_numeric.proofs.Limited.{made_capped, zero_signed}
use Rattle.xp_numeric.proofs.Rounded.{nothing_left}
use Rattle.xp_numeric.proofs.places.with_zeros.Goals as goal

pub returns-then-all-from : goal.returns-then-all-from
returns-then-all-from c =
    let a = c.args.a in
    let z = c.args.zeros in
    let h : 38 < a.scale + z = omega arith in
    c.number.ensures ∙ ap (λ y. made y 0) (zero_signed false a.neg ∙ ap (signed a.neg) (sym (ap (λ k. k * 10 ^ z) (nothing_left c.args.rounding a.coef (a.scale + z) a.digits h) ∙ zero-mul (10 ^ z))))

pub returns : goal.returns
returns c =
    let a = c.args.a in
    let z = c.args.zeros in
    let r = c.args.rounding in
    c.made.ensures
    ∙ ap (λ k. made (signed a.neg k) 0) (c.saturating_mul-size.ensures ∙ ap (λ k. min (c.divided.result * k) (2 ^ 128 - 1)) c.power.ensures.value
    ∙ ap (λ k. min (k * 10 ^ z) (2 ^ 128 - 1)) (c.divided.ensures.value ∙ ap (λ k. division r a.coef (10 ^ (k + z))) c.from.ensures))
    ∙ made_capped a.neg (division r a.coef (10 ^ (a.scale + z)) * 10 ^ z) 0
