use Rattle.std.proofs.Common.{rules}
use Rattle.std.proofs.lemmas.List.{append-nil}
use Rattle.xp_run.specs.Uses.{type_name}
use Rattle.xp_run.proofs.uses.operand_names.Goals as goal

pub returns-in-Some : goal.returns-in-Some
returns-in-Some c = rw (c.in-Some.is, append-nil (type_name c.args.catalog.now c.args.right)) (search rules)
