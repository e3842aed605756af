use Rattle.std.proofs.Common.{◌≡◌, ◌/◌, ◌^◌, cond, sym, ap, ◌∙◌}
use Rattle.std.specs.Int.{div_ceil}
use Rattle.xp_value.proofs.Powers.{pow_positive}
use Rattle.xp_numeric.specs.Numbers.{made, signed}
use Rattle.xp_numeric.proofs.SignedSizes.{ceiling_signed}
use Rattle.xp_numeric.proofs.places.ceil_numeric.Goals as goal
use Rattle.xp_numeric.proofs.places.ceil_numeric.Goals.{then-a, else-a}

pub returns : goal.returns
returns c =
    let a = c.args.a in
    let d = 10 ^ a.scale in
    let u : c.power-unit.result ≡ d = c.power-unit.ensures.value ∙ ap (λ k. 10 ^ k) c.from.ensures in
    let e : c.if-a.size ≡ cond a.neg (a.coef / d) (div_ceil a.coef d) = elim c.if-a.branch [
      | then-a w ↦ rw w.if-a.true (w.size-is ∙ ap (λ k. a.coef / k) u)
      | else-a w ↦ rw w.if-a.false (w.size-is ∙ w.div_ceil-size.ensures ∙ ap (div_ceil a.coef) u)
    ] in
    c.number.ensures ∙ ap (λ k. made (signed a.neg k) 0) e ∙ ap (λ z. made z 0) (sym (ceiling_signed a.neg a.coef d (pow_positive a.scale)))
