use Rattle.std.proofs.lemmas.List.Elements.{All-push}
use Rattle.xp_resolve.specs.inner.Sources.{AreSources}
use Rattle.xp_analyse.proofs.gather.with_list.Goals as goal

pub returns-clause-sources : goal.returns-clause-sources
returns-clause-sources c all = rw c.in_ok-push.ensures (All-push (AreSources c.args.scene.now.c) c.args.before.lists c.in_ok-made.made.parts all c.in_ok-made.ensures.sources)
