use Rattle.std.proofs.Common.{◌≡◌, ◌+◌, length}
use Rattle.xp_like.specs.Patterns.{matches, parts, some_end}
use Rattle.xp_like.proofs.matching.matches_end.Given as goal

abbrev pub invariant-loop-found : goal.invariant-loop-found
invariant-loop-found g l = some_end (matches (parts (g.U.Units.units l.place))) (g.U.Units.units l.rest) ≡ some_end (matches (parts (g.U.Units.units l.fn.pattern))) (g.U.Units.units l.fn.text)

abbrev pub decreases-loop-found : goal.decreases-loop-found
decreases-loop-found g l = length (g.U.Units.units l.place) + length (g.U.Units.units l.rest)
