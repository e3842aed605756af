use Rattle.std.proofs.Common.{◌≡◌, ◌≤◌, ◌++◌, drop, length, take}
use Rattle.xp_base.specs.declared.limits.TheConstants.{ARGUMENT_LIMIT}
use Rattle.xp_types.specs.Within.{AreTypes}
use Rattle.xp_poly.specs.Acceptance.{counted}
use Rattle.xp_poly.proofs.acceptance.counted.Given as goal

-- what the inputs before this place count as, and those from here on
abbrev pub invariant-loop-place : goal.invariant-loop-place
invariant-loop-place l = record {
  size : length l.room ≡ ARGUMENT_LIMIT;
  count : l.count ≤ l.place;
  list : take l.count l.room ++ counted l.c (drop l.place l.inputs) ≡ counted l.c l.inputs;
  within : AreTypes l.c (take l.count l.room);
}
