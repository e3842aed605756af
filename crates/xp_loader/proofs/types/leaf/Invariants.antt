use Rattle.std.proofs.Common.{◌≡◌, ◌+◌, ◌-◌, ◌<◌, length}
use Rattle.xp_catalog.specs.Rules.{leaf, leaf_in}
use Rattle.xp_loader.proofs.types.leaf.Given as goal

-- as many steps are left as are enough, from a type
abbrev pub invariant-loop-step : goal.invariant-loop-step
invariant-loop-step l = record {
  steps : leaf_in (l.fn.ty.0 + 1 - l._step) l.c l.at ≡ leaf l.c l.fn.ty;
  within : l.at.0 < length l.c.types;
}
