use Rattle.std.proofs.Common.{◌≡◌, ◌≤◌, ◌+◌, drop, length}
use Rattle.xp_overload.specs.Places.{is_marked, kept, kept_from}
use Rattle.std.specs.List.{filter}
use Rattle.xp_overload.proofs.known.count_marked.Given as goal

-- the count so far and that of the places from here on
abbrev pub invariant-loop-place : goal.invariant-loop-place
invariant-loop-place l = record {
  bound : l.count ≤ l.place;
  sum : l.count + length (filter (is_marked l.marks) (kept_from l.place (drop l.place l.keep))) ≡ length (filter (is_marked l.marks) (kept l.keep));
}
