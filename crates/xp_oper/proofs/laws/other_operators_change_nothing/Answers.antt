use Rattle.xp_oper.proofs.Others.{picked-same}
use Rattle.xp_oper.proofs.laws.other_operators_change_nothing.Goals as goal

pub returns : goal.returns
returns c = picked-same c.args.c.now c.args.name.now c.args.oper c.requires c.args.inputs.now
