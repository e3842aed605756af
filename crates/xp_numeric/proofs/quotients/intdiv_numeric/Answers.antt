use Rattle.std.proofs.Common.{◌-◌, ◌*◌, ◌/◌, ◌^◌, ◌<◌, max, sym, ap, ◌∙◌, arith}
use Rattle.xp_numeric.specs.Arithmetic.{differ}
use Rattle.std.proofs.Math.Nat.{mul-pos}
use Rattle.std.proofs.lemmas.Bool.{ne_eqb}
use Rattle.xp_value.proofs.Powers.{pow_positive}
use Rattle.xp_numeric.specs.Numbers.{made, signed}
use Rattle.xp_numeric.proofs.Limited.{made_capped}
use Rattle.xp_numeric.proofs.SignedSizes.{signed_div}
use Rattle.xp_numeric.proofs.quotients.intdiv_numeric.Goals as goal

pub returns : goal.returns
returns c =
    let a = c.args.a in
    let b = c.args.b in
    let s = max a.scale b.scale in
    let t = ne_eqb b.coef 0 c.if-b-eq0.false in
    let p : 0 < b.coef = omega arith in
    rw t (c.made.ensures
    ∙ ap (λ k. made (signed (differ a.neg b.neg) k) 0) c.whole_size.ensures
    ∙ made_capped (differ a.neg b.neg) (a.coef * 10 ^ (s - a.scale) / (b.coef * 10 ^ (s - b.scale))) 0
    ∙ ap (λ z. made z 0) (sym (signed_div a.neg b.neg (a.coef * 10 ^ (s - a.scale)) (b.coef * 10 ^ (s - b.scale)) (mul-pos p (pow_positive (s - b.scale))))))
