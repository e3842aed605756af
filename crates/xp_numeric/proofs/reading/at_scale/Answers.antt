use Rattle.std.proofs.Common.{arith}
use Rattle.xp_numeric.proofs.Limited.{made_fine}
use Rattle.xp_numeric.proofs.reading.at_scale.Goals as goal

pub returns-then-scale-from : goal.returns-then-scale-from
returns-then-scale-from c = made_fine _ _ (omega arith)
