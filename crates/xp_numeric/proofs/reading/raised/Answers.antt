use Rattle.std.proofs.Common.{arith}
use Rattle.xp_numeric.proofs.Numerals.{raised_long}
use Rattle.xp_numeric.proofs.reading.raised.Goals as goal

pub returns-then-zeros-from : goal.returns-then-zeros-from
returns-then-zeros-from c = λ n m e o. raised_long c.args.size n m c.args.zeros c.if-size-eq0.false (omega arith) e o
