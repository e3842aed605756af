use Rattle.std.proofs.Common.{◌≡◌, drop}
use Rattle.std.specs.List.{find}
use Rattle.xp_types.specs.Readers.{is_known}
use Rattle.xp_candidates.proofs.known.first_known.Given as goal

-- those from here on answer as all do
abbrev pub invariant-loop-ty : goal.invariant-loop-ty
invariant-loop-ty l = find is_known (drop l.ty-index l.types) ≡ find is_known l.types
