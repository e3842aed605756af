use Rattle.std.proofs.Common.{arith, ◌≤◌, length, ap}
use Rattle.xp_value.specs.Order.{unpadded}
use Rattle.xp_text.proofs.Unpadded.{unpadded_shorter}
use Rattle.xp_text.proofs.measures.length_bpchar.Goals as goal

pub returns-clause-bound : goal.returns-clause-bound
returns-clause-bound c = omega (arith, c.length_text.ensures.bound, ap length c.unpadded.ensures, unpadded_shorter c.args.a.now)
