use Rattle.std.proofs.Common.{◌*◌, ◌-◌, ◌^◌, ◌<◌, ◌%◌, arith}
use Rattle.xp_value.proofs.Powers.{pow_positive, pow_below, rest_below, whole_and_rest}
use Rattle.xp_value.proofs.numbers.parts.Goals as goal

pub pow-power-requires : goal.pow-power-requires
pow-power-requires c = pow_below c.args.number.now.scale c.args.number.now.decimals

pub pow-rest-requires : goal.pow-rest-requires
pow-rest-requires c = pow_below (38 - c.args.number.now.scale) (omega arith)

pub nonzero_div-result : goal.nonzero_div-result
nonzero_div-result c = rw c.pow-power.ensures (pow_positive c.args.number.now.scale)

pub nonzero_rem-result : goal.nonzero_rem-result
nonzero_rem-result c = rw c.pow-power.ensures (pow_positive c.args.number.now.scale)

pub overflow_mul-result : goal.overflow_mul-result
overflow_mul-result c =
    let below : (c.args.number.now.coef % 10 ^ c.args.number.now.scale) * 10 ^ (38 - c.args.number.now.scale) < 10 ^ 38 = rest_below c.args.number.now.coef c.args.number.now.scale c.args.number.now.decimals in
    rw (c.pow-power.ensures, c.pow-rest.ensures) (omega arith)

pub returns-clause-value : goal.returns-clause-value
returns-clause-value c = rw (c.pow-power.ensures, c.pow-rest.ensures) (whole_and_rest c.args.number.now.coef c.args.number.now.scale c.args.number.now.decimals)

pub returns-clause-below : goal.returns-clause-below
returns-clause-below c = rw (c.pow-power.ensures, c.pow-rest.ensures) (rest_below c.args.number.now.coef c.args.number.now.scale c.args.number.now.decimals)
