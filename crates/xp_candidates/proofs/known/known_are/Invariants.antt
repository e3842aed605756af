use Rattle.std.proofs.Common.{◌≡◌, drop}
use Rattle.std.specs.List.{filter, list_all}
use Rattle.xp_types.specs.Readers.{is_known, is_same}
use Rattle.xp_candidates.proofs.known.known_are.Given as goal

-- those from here on answer as all do
abbrev pub invariant-loop-ty : goal.invariant-loop-ty
invariant-loop-ty l = list_all (is_same l.first) (filter is_known (drop l.ty-index l.types)) ≡ list_all (is_same l.first) (filter is_known l.types)
