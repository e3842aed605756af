use Rattle.std.proofs.Common.{◌≡◌, length}
use Rattle.xp_like.specs.Patterns.{ends_in_escape}
use Rattle.xp_like.proofs.parts.ends_in_escape.Given as goal

abbrev pub invariant-loop-unit : goal.invariant-loop-unit
invariant-loop-unit g l = ends_in_escape (g.U.Units.units l.place) ≡ ends_in_escape (g.U.Units.units l.fn.pattern)

abbrev pub decreases-loop-unit : goal.decreases-loop-unit
decreases-loop-unit g l = length (g.U.Units.units l.place)
