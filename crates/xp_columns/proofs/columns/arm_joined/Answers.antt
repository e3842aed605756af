use Rattle.std.proofs.Common.{◌≡◌, [], ◌∷◌, ◌++◌, ◌∙◌, ap}
use Rattle.std.proofs.lemmas.List.Elements.{All-push, All-same}
use Rattle.xp_resolve.specs.inner.Sources.{AreSources}
use Rattle.xp_columns.specs.Columns.{width_of}
use Rattle.xp_columns.proofs.Widths.{width_pushed}
use Rattle.xp_columns.proofs.columns.arm_joined.Goals as goal

pub table_made-requires-clause-sources : goal.table_made-requires-clause-sources
table_made-requires-clause-sources c =
    All-same (AreSources c.args.scene.now.c) c.push.new.items (c.args.before.lists ++ c.args.arm.items ∷ []) c.in_ok-push.ensures
    (All-push (AreSources c.args.scene.now.c) c.args.before.lists c.args.arm.items c.requires.sources c.requires.items)

pub returns-clause-widths : goal.returns-clause-widths
returns-clause-widths c = λ width some all.
    let is : width_of c.push.new.items ≡ width = ap width_of c.in_ok-push.ensures ∙ width_pushed width c.args.before.lists c.args.arm.items some all in
    rw is at c.table_made.ensures.widths
