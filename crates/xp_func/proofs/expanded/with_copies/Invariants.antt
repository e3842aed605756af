use Rattle.std.proofs.Common.{◌≡◌, ◌<◌, ◌++◌, length, replicate}
use Rattle.std.specs.List.{All}
use Rattle.xp_func.proofs.expanded.with_copies.Given as goal

-- the types, and the copies so far
abbrev pub invariant-loop-copy : goal.invariant-loop-copy
invariant-loop-copy l = record {
  list : l.list ≡ l.types ++ replicate l._copy l.ty;
  known : All (λ type. type.0 < length l.c.types) l.list;
}
