use Rattle.std.proofs.Common.{arith, rules}
use Rattle.std.proofs.lemmas.Grind.{common_steps}
use Rattle.std.proofs.lemmas.Str.{encodes-chars}
use Rattle.xp_text.proofs.fields.put.Goals as goal

pub returns-clause-ok : goal.returns-clause-ok
returns-clause-ok c = rw (encodes-chars c.args.piece.now c.utf8.piece) (grind (arith, common_steps))

pub returns-in_err-check_size-clause-large : goal.returns-in_err-check_size-clause-large
returns-in_err-check_size-clause-large c = rw (encodes-chars c.args.piece.now c.utf8.piece) (grind (arith, common_steps))
