use Rattle.std.proofs.Common.{◌-◌, ◌*◌, ◌%◌, ◌^◌, max, sym, ap, ◌∙◌}
use Rattle.std.proofs.lemmas.Bool.{ne_eqb}
use Rattle.xp_numeric.specs.Numbers.{made, signed}
use Rattle.xp_numeric.proofs.SignedSizes.{signed_rem}
use Rattle.xp_numeric.proofs.quotients.mod_numeric.Goals as goal

pub returns : goal.returns
returns c =
    let a = c.args.a in
    let b = c.args.b in
    let s = max a.scale b.scale in
    let t = ne_eqb b.coef 0 c.if-b-eq0.false in
    rw t (c.made.ensures
    ∙ ap (λ k. made (signed a.neg k) c.from.result) c.rest_size.ensures
    ∙ ap (λ k. made (signed a.neg ((a.coef * 10 ^ (s - a.scale)) % (b.coef * 10 ^ (s - b.scale)))) k) (c.from.ensures ∙ c.max.ensures)
    ∙ ap (λ z. made z s) (sym (signed_rem a.neg b.neg (a.coef * 10 ^ (s - a.scale)) (b.coef * 10 ^ (s - b.scale)))))
