use Rattle.std.proofs.Common.{◌≡◌, ◌++◌, replicate}
use Rattle.xp_resolve.proofs.targets.with_copies.Given as goal

-- the targets, and the copies so far
abbrev pub invariant-loop-copy : goal.invariant-loop-copy
invariant-loop-copy l = l.list ≡ l.initial.list ++ replicate l._copy l.each
