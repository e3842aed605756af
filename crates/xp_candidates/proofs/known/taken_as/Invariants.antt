use Rattle.std.proofs.Common.{◌≡◌, ◌<◌, length, take}
use Rattle.std.specs.Prelude.{map}
use Rattle.std.specs.List.{All}
use Rattle.xp_candidates.specs.Known.{taken_as}
use Rattle.xp_candidates.proofs.known.taken_as.Given as goal

-- the types so far
abbrev pub invariant-loop-other : goal.invariant-loop-other
invariant-loop-other l = record {
  list : l.list ≡ map (taken_as l.ty) (take l.other-index l.types);
  known : All (λ type. type.0 < length l.c.types) l.list;
}
