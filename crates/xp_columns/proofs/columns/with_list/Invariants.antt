use Rattle.std.proofs.Common.{◌≡◌, ◌++◌, length, reverse}
use Rattle.xp_columns.specs.Columns.{with_list}
use Rattle.xp_columns.proofs.columns.with_list.Given as goal

-- the columns so far, and what the others become, are all
abbrev pub invariant-loop-column : goal.invariant-loop-column
invariant-loop-column l = l.more ++ with_list (reverse l.left) l.items ≡ with_list l.fn.columns l.fn.list

abbrev pub decreases-loop-column : goal.decreases-loop-column
decreases-loop-column l = length l.left
