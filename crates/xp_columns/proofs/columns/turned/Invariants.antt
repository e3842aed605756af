use Rattle.std.proofs.Common.{◌≡◌, length, reverse}
use Rattle.xp_columns.specs.Columns.{turned, with_lists}
use Rattle.xp_columns.proofs.columns.turned.Given as goal

-- the lists that are left, behind those in the columns, are all
abbrev pub invariant-loop-list : goal.invariant-loop-list
invariant-loop-list l = with_lists l.columns (reverse l.left) ≡ turned l.width l.fn.lists

abbrev pub decreases-loop-list : goal.decreases-loop-list
decreases-loop-list l = length l.left
