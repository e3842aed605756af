use Rattle.std.proofs.Common.{◌≡◌, ◌<◌, take, length}
use Rattle.std.specs.List.{All}
use Rattle.xp_candidates.specs.Known.{bases}
use Rattle.xp_candidates.proofs.known.bases.Given as goal

-- the base types so far
abbrev pub invariant-loop-input : goal.invariant-loop-input
invariant-loop-input l = record {
  list : l.types ≡ bases l.c (take l.input-index l.inputs);
  known : All (λ type. type.0 < length l.c.types) l.types;
}
