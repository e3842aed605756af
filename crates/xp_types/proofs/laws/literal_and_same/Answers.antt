use Rattle.std.proofs.Common.{arith, ◌≡◌, true}
use Rattle.xp_types.specs.Readers.{is_same}
use Rattle.xp_types.proofs.Converting.{literal_first, same_second}
use Rattle.xp_types.proofs.laws.literal_and_same.Goals as goal

pub returns-clause-literal : goal.returns-clause-literal
returns-clause-literal c = λ is. literal_first c.args.c.now c.args.context c.args.s c.args.t _ is

pub returns-clause-same : goal.returns-clause-same
returns-clause-same c = λ is. let itself : is_same c.args.s c.args.s ≡ true = grind arith in same_second c.args.c.now c.args.context c.args.s c.args.s _ is itself
