use Rattle.xp_func.proofs.Named.{picked-listed}
use Rattle.xp_func.proofs.Told.{picked-told}
use Rattle.xp_func.proofs.laws.a_candidate_is_picked.Goals as goal

pub returns : goal.returns
returns c = record {
  picked = picked-listed c.args.c.now c.args.name.now c.args.inputs.now c.args.variadic;
  ambiguous = picked-told c.args.c.now c.args.name.now c.args.inputs.now c.args.variadic;
}
