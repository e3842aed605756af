use Rattle.std.proofs.Common.{◌≡◌, ◌++◌, length, reverse}
use Rattle.xp_resolve.proofs.lists.turned.Given as goal

-- what is left, and behind it what was turned, are all
abbrev pub invariant-loop-item : goal.invariant-loop-item
invariant-loop-item g l = l.left ++ reverse l.turned ≡ l.fn.items

abbrev pub decreases-loop-item : goal.decreases-loop-item
decreases-loop-item g l = length l.left
