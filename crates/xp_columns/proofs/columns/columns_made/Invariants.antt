use Rattle.std.proofs.Common.{◌≡◌, ◌++◌, length, reverse}
use Rattle.xp_columns.specs.Columns.{columns_made, no_columns}
use Rattle.xp_columns.specs.inner.Tables.{AreColumns, AreLists}
use Rattle.xp_columns.proofs.Widths.{lengths}
use Rattle.xp_columns.proofs.columns.columns_made.Given as goal

-- the columns so far, and what the others become, are all
abbrev pub invariant-loop-column : goal.invariant-loop-column
invariant-loop-column l = record {
  columns : AreColumns l.scene.c (reverse l.left);
  says : columns_made l.scene l.inputs l.at l.made (reverse l.left) ≡ columns_made l.scene l.inputs l.at (no_columns l.fn.nodes) l.fn.columns;
  sources : AreLists l.scene.c l.made.lists;
  lengths : lengths l.made.lists ++ lengths (reverse l.left) ≡ lengths l.fn.columns;
}

abbrev pub decreases-loop-column : goal.decreases-loop-column
decreases-loop-column l = length l.left
