use Rattle.std.proofs.Common.{◌≡◌, ◌==◌, drop, length}
use Rattle.std.specs.List.{list_all}
use Rattle.xp_columns.specs.Columns.{are_as_long, width_of}
use Rattle.xp_columns.proofs.columns.are_as_long.Given as goal

-- it comes to those that are left
abbrev pub invariant-loop-list : goal.invariant-loop-list
invariant-loop-list l = list_all (λ list. length list == width_of l.lists) (drop l.list-index l.lists) ≡ are_as_long l.lists
