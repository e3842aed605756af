use Rattle.std.proofs.Common.{◌≡◌, List, ◌∙◌, ap, length}
use Rattle.std.proofs.lemmas.List.Elements.{All-same}
use Rattle.xp_resolve.specs.declared.made.Part.{Part}
use Rattle.xp_resolve.specs.inner.Sources.{AreSources}
use Rattle.xp_columns.specs.Columns.{turned, width_of}
use Rattle.xp_columns.specs.inner.Tables.{IsColumn}
use Rattle.xp_columns.proofs.Turning.{all_columns, all_lists}
use Rattle.xp_columns.proofs.Widths.{lengths, table_count, table_widths}
use Rattle.xp_columns.proofs.columns.table_over.Goals as goal

pub columns_made-requires-clause-columns : goal.columns_made-requires-clause-columns
columns_made-requires-clause-columns c =
    let is : c.in_ok-columns.columns ≡ turned (width_of c.args.lists) c.args.lists = rw (c.width_of-width.ensures, c.as_slice.ensures) at c.in_ok-columns.ensures in
    All-same (IsColumn c.args.scene.now.c) c.in_ok-columns.columns (turned (width_of c.args.lists) c.args.lists) is (all_columns c.args.scene.now.c c.args.lists c.requires.sources)

pub returns-clause-sources : goal.returns-clause-sources
returns-clause-sources c =
    let back : c.in_ok-lists.lists ≡ turned (length c.args.lists) c.in_ok-all.all.lists = rw c.len-count.ensures at c.in_ok-lists.ensures in
    All-same (AreSources c.args.scene.now.c) c.in_ok-lists.lists (turned (length c.args.lists) c.in_ok-all.all.lists) back
    (all_lists c.args.scene.now.c (length c.args.lists) c.in_ok-all.all.lists c.in_ok-all.ensures.sources)

pub returns-clause-count : goal.returns-clause-count
returns-clause-count c =
    let is : c.in_ok-columns.columns ≡ turned (width_of c.args.lists) c.args.lists = rw (c.width_of-width.ensures, c.as_slice.ensures) at c.in_ok-columns.ensures in
    let same : lengths c.in_ok-all.all.lists ≡ lengths (turned (width_of c.args.lists) c.args.lists) = c.in_ok-all.ensures.lengths ∙ ap lengths is in
    let back : c.in_ok-lists.lists ≡ turned (length c.args.lists) c.in_ok-all.all.lists = rw c.len-count.ensures at c.in_ok-lists.ensures in
    ap length back ∙ table_count (width_of c.args.lists) c.args.lists c.in_ok-all.all.lists same

pub returns-clause-widths : goal.returns-clause-widths
returns-clause-widths c =
    let is : c.in_ok-columns.columns ≡ turned (width_of c.args.lists) c.args.lists = rw (c.width_of-width.ensures, c.as_slice.ensures) at c.in_ok-columns.ensures in
    let same : lengths c.in_ok-all.all.lists ≡ lengths (turned (width_of c.args.lists) c.args.lists) = c.in_ok-all.ensures.lengths ∙ ap lengths is in
    let back : c.in_ok-lists.lists ≡ turned (length c.args.lists) c.in_ok-all.all.lists = rw c.len-count.ensures at c.in_ok-lists.ensures in
    All-same (λ (list : List Part). length list ≡ width_of c.args.lists) c.in_ok-lists.lists (turned (length c.args.lists) c.in_ok-all.all.lists) back
    (table_widths (width_of c.args.lists) c.args.lists c.in_ok-all.all.lists c.requires.even same)
