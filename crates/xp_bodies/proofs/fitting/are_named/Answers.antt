use Rattle.xp_bodies.proofs.Agreeing.{are_named-lengths}
use Rattle.xp_bodies.proofs.fitting.are_named.Goals as goal

pub returns-then-types-names : goal.returns-then-types-names
returns-then-types-names c = are_named-lengths c.args.c.now c.args.types.now c.args.names.now c.if-types-names.true
