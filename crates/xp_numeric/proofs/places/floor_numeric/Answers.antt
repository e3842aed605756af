use Rattle.std.proofs.Common.{◌≡◌, ◌/◌, ◌^◌, cond, sym, ap, ◌∙◌}
use Rattle.std.specs.Int.{div_ceil}
use Rattle.xp_value.proofs.Powers.{pow_positive}
use Rattle.xp_numeric.specs.Numbers.{made, signed}
use Rattle.xp_numeric.proofs.SignedSizes.{floor_signed}
use Rattle.xp_numeric.proofs.places.floor_numeric.Goals as goal
use Rattle.xp_numeric.proofs.places.floor_numeric.Goals.{then-a, else-a}

pub returns : goal.returns
returns c =
    let a = c.args.a in
    let d = 10 ^ a.scale in
    let u : c.power-unit.result ≡ d = c.power-unit.ensures.value ∙ ap (λ k. 10 ^ k) c.from.ensures in
    let e : c.if-a.size ≡ cond a.neg (div_ceil a.coef d) (a.coef / d) = elim c.if-a.branch [
      | then-a w ↦ rw w.if-a.true (w.size-is ∙ w.div_ceil-size.ensures ∙ ap (div_ceil a.coef) u)
      | else-a w ↦ rw w.if-a.false (w.size-is ∙ ap (λ k. a.coef / k) u)
    ] in
    c.number.ensures ∙ ap (λ k. made (signed a.neg k) 0) e ∙ ap (λ z. made z 0) (sym (floor_signed a.neg a.coef d (pow_positive a.scale)))
