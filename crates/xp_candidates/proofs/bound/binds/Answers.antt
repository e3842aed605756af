use Rattle.xp_candidates.proofs.There.{there}
use Rattle.xp_candidates.proofs.bound.binds.Goals as goal

pub returns-in-Concrete : goal.returns-in-Concrete
returns-in-Concrete c =
    there c.args.c.now c.args.candidate.now c.args.inputs.now c.as_slice.result.now c.in-Concrete.result_type c.bind.new.out _ c.are_there.result c.as_slice.ensures c.are_there.ensures c.in-Concrete.ensures.binding c.bind.ensures.out
