use Rattle.std.proofs.Common.{◌-◌, ◌*◌, ◌^◌, ◌≤◌, min, sym, ap, ◌∙◌, arith}
use Rattle.xp_numeric.specs.Numbers.{made, signed}
use Rattle.xp_numeric.specs.inner.Dividing.{division}
use Rattle.xp_numeric.proofs.Limited.{made_fine, made_capped}
use Rattle.xp_numeric.proofs.Rounded.{decimals_fewer, decimals_more}
use Rattle.xp_numeric.proofs.places.with_decimals.Goals as goal
use Rattle.xp_numeric.proofs.places.with_decimals.Goals.{then-decimals-scale, else-decimals-scale}

pub returns-then-decimals-from : goal.returns-then-decimals-from
returns-then-decimals-from c = made_fine _ _ (omega arith)

pub returns : goal.returns
returns c =
    let a = c.args.a in
    let n = c.args.decimals in
    let r = c.args.rounding in
    c.made.ensures ∙ elim c.if-decimals-scale.branch [
      | then-decimals-scale w ↦
          let h : n ≤ a.scale = omega (arith, w.if-decimals-scale.true, c.from-scale.ensures) in
          ap (λ k. made (signed a.neg k) n) (w.size-is ∙ w.divided-size.ensures.value ∙ ap (λ k. division r a.coef (10 ^ (k - n))) c.from-scale.ensures ∙ sym (decimals_fewer r a.coef n a.scale h))
      | else-decimals-scale w ↦
          let h : a.scale ≤ n = omega (arith, w.if-decimals-scale.false, c.from-scale.ensures) in
          ap (λ k. made (signed a.neg k) n) (w.size-is ∙ w.saturating_mul-size.ensures ∙ ap (λ k. min (a.coef * k) (2 ^ 128 - 1)) (w.power.ensures.value ∙ ap (λ k. 10 ^ (n - k)) c.from-scale.ensures))
          ∙ made_capped a.neg (a.coef * 10 ^ (n - a.scale)) n
          ∙ ap (λ k. made (signed a.neg k) n) (sym (decimals_more r a.coef n a.scale h))
    ]
