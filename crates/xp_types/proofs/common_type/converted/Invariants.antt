use Rattle.std.proofs.Common.{◌≡◌, ℕ, ◌<◌, true, get_or}
use Rattle.xp_types.specs.Paths.{converts}
use Rattle.xp_types.specs.Readers.{unknown}
use Rattle.xp_types.proofs.common_type.converted.Given as goal

-- each input before this one converts
abbrev pub invariant-loop-place : goal.invariant-loop-place
invariant-loop-place l = (k : ℕ) → k < l.place → converts l.c (get_or l.inputs k unknown) l.ty ≡ true
