use Rattle.std.proofs.Common.{Ok}
use Rattle.xp_expressions.specs.Expressions.{resolved}
use Rattle.xp_expressions.specs.Operands.{begun}
use Rattle.xp_analyse.specs.inner.Views.{list_in}
use Rattle.xp_analyse.proofs.Gathering.{behind_end, behind_next}
use Rattle.xp_analyse.proofs.gather.gather_list.Goals as goal

pub loop-place-preserved : goal.loop-place-preserved
loop-place-preserved c = record {
  sources = c.with_operand-all.ensures.sources;
  count = c.with_operand-all.ensures.count c.loop-place.place c.loop-place.invariant.count;
  says = behind_next (resolved c.args.scene.now) (Ok (begun c.args.progress)) c.loop-place.all c.with_operand-all.result (list_in c.args.list) c.loop-place.place c.at.result.now (rw c.len-place-end.ensures at c.loop-place-test.true) c.at.ensures c.loop-place.invariant.says c.with_operand-all.ensures.value;
}

pub returns-clause-value : goal.returns-clause-value
returns-clause-value c =
    behind_end (resolved c.args.scene.now) (Ok (begun c.args.progress)) c.loop-place.all (list_in c.args.list) c.loop-place.place (rw c.len-place-end.ensures at c.loop-place-test.false) c.loop-place.invariant.says
