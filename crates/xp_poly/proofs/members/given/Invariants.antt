use Rattle.std.proofs.Common.{◌≡◌, ◌≤◌, ◌++◌, drop, length, take, zip}
use Rattle.xp_base.specs.declared.limits.TheConstants.{ARGUMENT_LIMIT}
use Rattle.xp_poly.specs.Members.{AreKnownTypes, given}
use Rattle.xp_poly.proofs.members.given.Given as goal

-- what is given before this place, and from here on
abbrev pub invariant-loop-place : goal.invariant-loop-place
invariant-loop-place l = record {
  size : length l.room ≡ ARGUMENT_LIMIT;
  count : l.count ≤ l.place;
  list : take l.count l.room ++ given l.c l.family (zip (drop l.place l.declared) (drop l.place l.inputs)) ≡ given l.c l.family (zip l.declared l.inputs);
  within : AreKnownTypes l.c (take l.count l.room);
}
