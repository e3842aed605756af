use Rattle.std.proofs.Common.{rules}
use Rattle.std.proofs.lemmas.List.{append-nil}
use Rattle.xp_run.specs.Uses.{type_name}
use Rattle.xp_run.proofs.uses.function_words.Goals as goal

pub returns : goal.returns
returns c = rw (append-nil (type_name c.args.catalog.now c.args.ty)) (search rules)
