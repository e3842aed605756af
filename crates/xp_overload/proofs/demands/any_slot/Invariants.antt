use Rattle.std.proofs.Common.{◌≡◌, drop}
use Rattle.std.specs.List.{list_any}
use Rattle.xp_overload.specs.Places.{kept, kept_from, slots_at}
use Rattle.xp_overload.specs.Categories.{column}
use Rattle.xp_overload.specs.inner.Demands.{is_wanted}
use Rattle.xp_overload.proofs.demands.any_slot.Given as goal

-- the places from here on answer as all do
abbrev pub invariant-loop-place : goal.invariant-loop-place
invariant-loop-place l = list_any (is_wanted l.wanted) (column (slots_at l.candidates) l.position (kept_from l.place (drop l.place l.keep))) ≡ list_any (is_wanted l.wanted) (column (slots_at l.candidates) l.position (kept l.keep))
