use Rattle.std.proofs.Common.{◌+◌, ◌-◌, arith}
use Rattle.xp_loader.proofs.Leaf.{leaf_in-here, leaf_in-next, leaf_in-none}
use Rattle.xp_loader.proofs.types.leaf.Goals as goal

pub returns-in-None : goal.returns-in-None
returns-in-None c = record {
  value = leaf_in-here (c.args.ty.0 - c.loop-step._step) (c.args.ty.0 + 1 - c.loop-step._step) c.args.c.now c.loop-step.at _ c.inner.result (omega arith) c.inner.ensures.value c.in-None.is c.loop-step.invariant.steps;
  within = c.loop-step.invariant.within;
}

pub loop-step-preserved : goal.loop-step-preserved
loop-step-preserved c = record {
  steps = leaf_in-next (c.args.ty.0 + 1 - (c.loop-step._step + 1)) (c.args.ty.0 + 1 - c.loop-step._step) c.args.c.now c.loop-step.at c.in-Some.next _ c.inner.result (omega arith) c.inner.ensures.value c.in-Some.is c.loop-step.invariant.steps;
  within = rw c.in-Some.is at c.inner.ensures.within;
}

pub returns : goal.returns
returns c = record {
  value = leaf_in-none (c.args.ty.0 + 1 - c.loop-step._step) c.args.c.now c.loop-step.at _ (omega arith) c.loop-step.invariant.steps;
  within = c.loop-step.invariant.within;
}
