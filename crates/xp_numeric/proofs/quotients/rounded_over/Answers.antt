use Rattle.std.proofs.Common.{◌≡◌, ◌+◌, ◌*◌, ◌/◌, ◌^◌, arith}
use Rattle.xp_numeric.specs.Quotients.{nearest}
use Rattle.xp_numeric.proofs.Division.{nearest_up, nearest_down}
use Rattle.xp_numeric.proofs.quotients.rounded_over.Goals as goal

pub returns-then-rest-divisor : goal.returns-then-rest-divisor
returns-then-rest-divisor c =
    let n = c.args.size * 10 ^ c.args.zeros in
    let d = c.args.divisor in
    let e : nearest n d ≡ n / d + 1 = nearest_up n d c.requires.positive (omega arith) in
    omega arith

pub returns-else-rest-divisor : goal.returns-else-rest-divisor
returns-else-rest-divisor c =
    let n = c.args.size * 10 ^ c.args.zeros in
    let d = c.args.divisor in
    let e : nearest n d ≡ n / d = nearest_down n d c.requires.positive (omega arith) in
    omega arith
