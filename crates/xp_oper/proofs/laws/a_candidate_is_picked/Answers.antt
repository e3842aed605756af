use Rattle.xp_oper.proofs.Named.{picked-listed}
use Rattle.xp_oper.proofs.Told.{picked-told}
use Rattle.xp_oper.proofs.laws.a_candidate_is_picked.Goals as goal

pub returns : goal.returns
returns c = record {
  picked = picked-listed c.args.c.now c.args.name.now c.args.inputs.now;
  ambiguous = picked-told c.args.c.now c.args.name.now c.args.inputs.now;
}
