use Rattle.std.proofs.Common.{◌≡◌, ◌++◌, drop, length, map, take, zip}
use Rattle.xp_types.specs.Within.{AreTypes}
use Rattle.xp_poly.specs.Bound.{concrete_at}
use Rattle.xp_poly.proofs.bound.write_types.Given as goal

-- what is written, and what is to be written from here on
abbrev pub invariant-loop-place : goal.invariant-loop-place
invariant-loop-place l = record {
  size : length l.out ≡ length l.inputs;
  list : take l.place l.out ++ map (concrete_at l.c l.both) (zip (drop l.place l.declared) (drop l.place l.inputs)) ≡ map (concrete_at l.c l.both) (zip l.declared l.inputs);
  within : AreTypes l.c (take l.place l.out);
}
