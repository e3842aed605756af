use Rattle.std.proofs.Common.{◌≡◌, ◌≤◌, length, drop}
use Rattle.std.specs.Cmp.Lexicographic.{slice_cmp}
use Rattle.xp_value.specs.Order.{value_order}
use Rattle.xp_value.proofs.ordering.+order.Given as goal

-- what is left of the lists decides
abbrev pub invariant-order_all-loop-i : goal.invariant-order_all-loop-i
invariant-order_all-loop-i l = record {
  same : slice_cmp value_order (drop l.i l.xs) (drop l.i l.ys) ≡ slice_cmp value_order l.xs l.ys;
  within : l.i ≤ length l.ys;
}
