use Rattle.std.proofs.Common.{◌≡◌, ◌++◌, drop, length, take}
use Rattle.xp_base.specs.declared.limits.TheConstants.{ARGUMENT_LIMIT}
use Rattle.xp_overload.specs.Places.{kept}
use Rattle.xp_overload.specs.inner.Demands.{demands_from}
use Rattle.xp_overload.proofs.demands.demands.Given as goal

-- the demands so far and those from here on
abbrev pub invariant-loop-position : goal.invariant-loop-position
invariant-loop-position l = record {
  room : length l.demands ≡ ARGUMENT_LIMIT;
  list : take l.position l.demands ++ demands_from l.candidates (kept l.keep) l.position (drop l.position l.inputs) ≡ demands_from l.candidates (kept l.keep) 0 l.inputs;
}
