use Rattle.std.proofs.Common.{◌≡◌, true, sym, ◌∙◌}
use Rattle.xp_columns.specs.Columns.{are_as_long}
use Rattle.xp_columns.proofs.Widths.{are_even}
use Rattle.xp_columns.proofs.columns.table_made.Goals as goal

pub table_over-requires-clause-even : goal.table_over-requires-clause-even
table_over-requires-clause-even c =
    let is : are_as_long c.args.lists ≡ true = rw c.as_slice.ensures at (sym c.are_as_long.ensures ∙ c.if-are_as_long.true) in
    are_even c.args.lists is
