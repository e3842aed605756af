use Rattle.std.proofs.Common.{◌∙◌, [], ◌∷◌, ap, length, arith}
use Rattle.std.proofs.lemmas.List.{length-append}
use Rattle.xp_coerce.specs.Asked.{IsSource}
use Rattle.xp_resolve.specs.declared.made.Part.{Part}
use Rattle.xp_resolve.proofs.Converting.{first_is, rest_are}
use Rattle.xp_analyse.proofs.Settling.{settled_more}
use Rattle.xp_analyse.proofs.settle.settled.Goals as goal

pub settled_part-requires-clause-source : goal.settled_part-requires-clause-source
settled_part-requires-clause-source c = first_is (λ (part : Part). IsSource c.args.scene.now.c part.tree) c.loop-part.queue c.in-Some.part c.pop.new.self c.loop-part.invariant.sources c.in-Some.ensures

pub loop-part-preserved : goal.loop-part-preserved
loop-part-preserved c = record {
  sources = rest_are (λ (part : Part). IsSource c.args.scene.now.c part.tree) c.loop-part.queue c.in-Some.part c.pop.new.self c.loop-part.invariant.sources c.in-Some.ensures;
  says = rw c.in_ok-push.ensures (settled_more c.args.scene.now (record { trees = c.loop-part.trees; nodes = c.loop-part.nodes }) c.loop-part.queue c.pop.new.self c.in-Some.part c.in_ok-one.one c.in-Some.ensures c.in_ok-one.ensures ∙ c.loop-part.invariant.says);
  count = omega (arith, c.loop-part.invariant.count, ap length c.in-Some.ensures, ap length c.in_ok-push.ensures, length-append c.loop-part.trees (c.in_ok-one.one.tree ∷ []));
}
