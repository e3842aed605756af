use Rattle.std.proofs.Common.{◌≡◌, drop}
use Rattle.xp_poly.specs.Members.{range_given}
use Rattle.xp_poly.proofs.members.range_given.Given as goal

-- the inputs from here on answer as all do
abbrev pub invariant-loop-given : goal.invariant-loop-given
invariant-loop-given l = range_given l.c (drop l.given-index l.inputs) ≡ range_given l.c l.inputs
