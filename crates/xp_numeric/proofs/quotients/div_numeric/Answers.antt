use Rattle.std.proofs.Common.{◌+◌, ◌-◌, ◌*◌, ◌^◌, sym, ap, ◌∙◌}
use Rattle.xp_numeric.specs.Arithmetic.{differ}
use Rattle.std.proofs.lemmas.Bool.{ne_eqb}
use Rattle.xp_numeric.specs.Numbers.{made, signed}
use Rattle.xp_numeric.specs.Arithmetic.{quotient_at}
use Rattle.std.specs.Prelude.{cond, Err}
use Rattle.xp_base.specs.declared.codes.EvalError.TheVariants.{DivisionByZero}
use Rattle.xp_numeric.specs.Quotients.{nearest, quotient_scale}
use Rattle.xp_numeric.proofs.Limited.{made_capped}
use Rattle.xp_numeric.proofs.Division.{fewer_zeros}
use Rattle.xp_numeric.proofs.quotients.div_numeric.Goals as goal

pub returns : goal.returns
returns c =
    let a = c.args.a in
    let b = c.args.b in
    let s = c.quotient_scale-scale.result in
    let n = differ a.neg b.neg in
    let t = ne_eqb b.coef 0 c.if-b-eq0.false in
    c.made.ensures
    ∙ ap (λ k. made (signed n k) s) c.rounded_over.ensures
    ∙ made_capped n (nearest (a.coef * 10 ^ (s + b.scale - a.scale)) b.coef) s
    ∙ ap (λ k. made (signed n k) s) (sym (fewer_zeros a.coef b.coef s a.scale b.scale c.quotient_scale-scale.ensures.first))
    ∙ ap (λ k. quotient_at k a b) c.quotient_scale-scale.ensures.value
    ∙ sym (ap (λ k. cond k (Err DivisionByZero) (quotient_at (quotient_scale a b) a b)) t)
