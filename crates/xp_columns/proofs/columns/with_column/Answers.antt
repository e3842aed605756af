use Rattle.std.proofs.Common.{[], ◌∷◌, ◌++◌}
use Rattle.std.proofs.lemmas.List.Elements.{All-push, All-same}
use Rattle.xp_resolve.specs.inner.Sources.{AreSources}
use Rattle.xp_columns.proofs.columns.with_column.Goals as goal

pub returns-clause-sources : goal.returns-clause-sources
returns-clause-sources c = λ before.
    All-same (AreSources c.args.scene.now.c) c.push.new.items (c.args.before.lists ++ c.in_ok-column.column.parts ∷ []) c.in_ok-push.ensures
    (All-push (AreSources c.args.scene.now.c) c.args.before.lists c.in_ok-column.column.parts before c.in_ok-column.ensures.sources)
