use Rattle.xp_func.proofs.Others.{picked-same}
use Rattle.xp_func.proofs.laws.other_functions_change_nothing.Goals as goal

pub returns : goal.returns
returns c = picked-same c.args.c.now c.args.name.now c.args.func c.requires c.args.inputs.now c.args.variadic
