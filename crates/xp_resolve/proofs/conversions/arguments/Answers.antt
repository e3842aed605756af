use Rattle.std.proofs.Common.{◌∙◌, sym, ap, length, arith}
use Rattle.xp_base.proofs.Lists.{drop_none}
use Rattle.xp_coerce.specs.Asked.{IsSource}
use Rattle.xp_resolve.specs.declared.made.Part.{Part}
use Rattle.xp_resolve.specs.Conversions.{arguments}
use Rattle.xp_resolve.proofs.Converting.{arguments_more, arguments_out, first_is, rest_are, typed_more}
use Rattle.xp_resolve.proofs.conversions.arguments.Goals as goal

pub argument-requires-clause-source : goal.argument-requires-clause-source
argument-requires-clause-source c = first_is (λ (part : Part). IsSource c.args.scene.now.c part.tree) c.loop-target.queue c.in-Some.part c.pop.new.self c.loop-target.invariant.sources c.in-Some.ensures

pub loop-target-preserved : goal.loop-target-preserved
loop-target-preserved c = record {
  sources = rest_are (λ (part : Part). IsSource c.args.scene.now.c part.tree) c.loop-target.queue c.in-Some.part c.pop.new.self c.loop-target.invariant.sources c.in-Some.ensures;
  says = rw c.in_ok-push.ensures
      (arguments_more c.args.scene.now c.args.at (record { trees = c.loop-target.trees; nodes = c.loop-target.nodes }) c.loop-target.queue c.pop.new.self c.args.targets.now c.in-Some.part c.loop-target.target-index _ c.in_ok-one.one
      c.in-Some.ensures c.loop-target-test.true c.in_ok-one.ensures.value
      ∙ c.loop-target.invariant.says);
  left = omega (arith, c.loop-target.invariant.left, ap length c.in-Some.ensures);
  typed = rw c.in_ok-push.ensures (typed_more c.args.scene.now.c c.loop-target.trees c.args.targets.now c.in_ok-one.one.tree c.loop-target.target-index _ c.loop-target-test.true c.in_ok-one.ensures.typed ∙ c.loop-target.invariant.typed);
}

pub returns-clause-value : goal.returns-clause-value
returns-clause-value c =
    sym c.loop-target.invariant.says ∙ ap (λ rest. arguments c.args.scene.now c.args.at (record { trees = c.loop-target.trees; nodes = c.loop-target.nodes }) c.loop-target.queue rest) (drop_none c.args.targets.now c.loop-target.target-index c.loop-target-test.false)
    ∙ arguments_out c.args.scene.now c.args.at (record { trees = c.loop-target.trees; nodes = c.loop-target.nodes }) c.loop-target.queue
