use Rattle.std.proofs.Common.{◌≡◌, ◌-◌, ◌*◌, ◌/◌, ◌%◌, ◌^◌, min, subst}
use Rattle.xp_numeric.proofs.Division.{continued_quotient, continued_rest}
use Rattle.xp_numeric.proofs.quotients.continued.Goals as goal

pub returns-clause-quotient : goal.returns-clause-quotient
returns-clause-quotient c = λ n e g.
    subst (λ f. c.saturating_add.result ≡ min (n * f / c.args.divisor) (2 ^ 128 - 1)) c.power-factor.ensures.value
    (continued_quotient n c.args.divisor c.power-factor.result c.product_over-more.result.0 c.product_over-more.result.1 c.args.quotient c.args.rest c.saturating_mul.result c.saturating_add.result
    c.power-factor.ensures.positive c.product_over-more.ensures.below e g c.product_over-more.ensures.value c.saturating_mul.ensures c.saturating_add.ensures)

pub returns-clause-rest : goal.returns-clause-rest
returns-clause-rest c = λ n g.
    subst (λ f. c.product_over-more.result.1 ≡ (n * f) % c.args.divisor) c.power-factor.ensures.value
    (continued_rest n c.args.divisor c.power-factor.result c.product_over-more.result.0 c.product_over-more.result.1 c.args.rest c.product_over-more.ensures.below g c.product_over-more.ensures.value)
