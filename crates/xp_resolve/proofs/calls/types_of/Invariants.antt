use Rattle.std.proofs.Common.{◌≡◌, ◌++◌, drop}
use Rattle.xp_types.specs.Within.{AreTypes}
use Rattle.xp_resolve.specs.Calls.{types_of}
use Rattle.xp_resolve.proofs.calls.types_of.Given as goal

-- the types so far, and those of the other trees, are all
abbrev pub invariant-loop-part : goal.invariant-loop-part
invariant-loop-part l = record {
  within : AreTypes l.c l.types;
  says : l.types ++ types_of (drop l.part-index l.parts) ≡ types_of l.parts;
}
