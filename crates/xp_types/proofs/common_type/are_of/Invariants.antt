use Rattle.std.proofs.Common.{◌≡◌, drop}
use Rattle.xp_types.specs.Common.{are_of, considered}
use Rattle.xp_types.proofs.common_type.are_of.Given as goal

-- the inputs from here on answer as all do
abbrev pub invariant-loop-input : goal.invariant-loop-input
invariant-loop-input l = are_of l.c l.letter (considered l.c (drop l.input-index l.inputs)) ≡ are_of l.c l.letter (considered l.c l.inputs)
