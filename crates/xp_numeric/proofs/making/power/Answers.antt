use Rattle.std.proofs.Common.{◌^◌, ◌<◌, ◌≤◌, subst, sym, arith}
use Rattle.std.proofs.Math.Nat.{pow-le-pow_right}
use Rattle.xp_value.proofs.Powers.{pow_below, pow_positive}
use Rattle.xp_numeric.proofs.making.power.Goals as goal

pub pow-requires : goal.pow-requires
pow-requires c = pow_below c.args.n c.requires

pub returns-clause-positive : goal.returns-clause-positive
returns-clause-positive c = subst (λ k. 0 < k) (sym c.pow.ensures) (pow_positive c.args.n)

pub returns-clause-high : goal.returns-clause-high
returns-clause-high c = subst (λ k. k ≤ 10 ^ 38) (sym c.pow.ensures) (pow-le-pow_right (omega arith) c.requires)
