use Rattle.std.proofs.Common.{◌≡◌, drop}
use Rattle.xp_overload.specs.Places.{kept, kept_from}
use Rattle.xp_overload.specs.inner.Demands.{is_filled, passing}
use Rattle.xp_overload.proofs.categories.any_passes.Given as goal

-- the places from here on answer as all do
abbrev pub invariant-loop-place : goal.invariant-loop-place
invariant-loop-place l = is_filled (passing l.candidates l.demands (kept_from l.place (drop l.place l.keep))) ≡ is_filled (passing l.candidates l.demands (kept l.keep))
