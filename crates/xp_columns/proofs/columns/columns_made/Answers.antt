use Rattle.std.proofs.Common.{◌∙◌, reverse}
use Rattle.xp_resolve.proofs.Converting.{first_is, rest_are}
use Rattle.xp_forms.proofs.Armed.{left_is}
use Rattle.xp_columns.specs.inner.Tables.{IsColumn}
use Rattle.xp_columns.proofs.Listing.{columns_more}
use Rattle.xp_columns.proofs.Widths.{lengths_more}
use Rattle.xp_columns.proofs.columns.columns_made.Goals as goal

pub with_column-requires-clause-column : goal.with_column-requires-clause-column
with_column-requires-clause-column c =
    first_is (IsColumn c.args.scene.now.c) (reverse c.loop-column.left) c.in-Some.column (reverse c.pop.new.self) c.loop-column.invariant.columns
    (left_is c.loop-column.left c.pop.new.self c.in-Some.column c.in-Some.ensures)

pub loop-column-preserved : goal.loop-column-preserved
loop-column-preserved c =
    let next = left_is c.loop-column.left c.pop.new.self c.in-Some.column c.in-Some.ensures in
    record {
      columns = rest_are (IsColumn c.args.scene.now.c) (reverse c.loop-column.left) c.in-Some.column (reverse c.pop.new.self) c.loop-column.invariant.columns next;
      says = columns_more c.args.scene.now c.args.inputs c.args.at c.loop-column.made c.in_ok-made.made (reverse c.loop-column.left) (reverse c.pop.new.self) c.in-Some.column next c.in_ok-made.ensures.value ∙ c.loop-column.invariant.says;
      sources = c.in_ok-made.ensures.sources c.loop-column.invariant.sources;
      lengths = lengths_more c.loop-column.made.lists c.in_ok-made.made.lists (reverse c.loop-column.left) (reverse c.pop.new.self) c.in-Some.column next c.in_ok-made.ensures.lengths ∙ c.loop-column.invariant.lengths;
    }
