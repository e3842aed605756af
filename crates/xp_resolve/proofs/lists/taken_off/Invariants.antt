use Rattle.std.proofs.Common.{◌≡◌, ◌++◌, length, reverse}
use Rattle.xp_resolve.proofs.lists.taken_off.Given as goal

-- what is left, and behind it what was taken off, are all
abbrev pub invariant-loop-place : goal.invariant-loop-place
invariant-loop-place g l = record {
  whole : l.items ++ reverse l.turned ≡ l.initial.items;
  count : length l.turned ≡ l._place;
}
