use Rattle.std.proofs.Common.{arith}
use Rattle.xp_io.proofs.writing.bytes_law.Goals as goal

pub returns : goal.returns
returns c = λ i. let fits = c.type_inv.bytes i in omega arith
