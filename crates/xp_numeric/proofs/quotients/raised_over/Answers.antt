use Rattle.std.proofs.Common.{◌≡◌, ◌-◌, ◌*◌, ◌/◌, ◌%◌, ◌^◌, ◌≤◌, min, refl, ap, ◌∙◌, arith}
use Rattle.std.proofs.Math.Nat.{div-le_self}
use Rattle.xp_numeric.proofs.Division.{zeros_apart}
use Rattle.xp_numeric.proofs.quotients.raised_over.Goals as goal

pub returns-clause-quotient : goal.returns-clause-quotient
returns-clause-quotient c =
    let n = c.args.size in
    let d = c.args.divisor in
    let i = c.min-first.result in
    let w : n / d ≤ n = div-le_self n d in
    let e : n / d ≡ min (n / d) (2 ^ 128 - 1) = omega arith in
    let h : i ≤ c.args.zeros = omega arith in
    c.continued.ensures.quotient (n * 10 ^ i) (c.continued-quotient.ensures.quotient n e refl) (c.continued-quotient.ensures.rest n refl)
    ∙ ap (λ k. min (k / d) (2 ^ 128 - 1)) (zeros_apart n i c.args.zeros h)

pub returns-clause-rest : goal.returns-clause-rest
returns-clause-rest c =
    let n = c.args.size in
    let i = c.min-first.result in
    let h : i ≤ c.args.zeros = omega arith in
    c.continued.ensures.rest (n * 10 ^ i) (c.continued-quotient.ensures.rest n refl)
    ∙ ap (λ k. k % c.args.divisor) (zeros_apart n i c.args.zeros h)
