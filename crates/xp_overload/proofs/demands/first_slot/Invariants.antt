use Rattle.std.proofs.Common.{◌≡◌, drop}
use Rattle.xp_overload.specs.Places.{kept, kept_from, slots_at}
use Rattle.xp_overload.specs.Categories.{column}
use Rattle.xp_overload.specs.inner.Demands.{first_of}
use Rattle.xp_overload.proofs.demands.first_slot.Given as goal

-- the places from here on answer as all do
abbrev pub invariant-loop-place : goal.invariant-loop-place
invariant-loop-place l = first_of (column (slots_at l.candidates) l.position (kept_from l.place (drop l.place l.keep))) ≡ first_of (column (slots_at l.candidates) l.position (kept l.keep))
