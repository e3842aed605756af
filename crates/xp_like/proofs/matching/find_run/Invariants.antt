use Rattle.std.proofs.Common.{◌≡◌, ◌≤◌, drop, length}
use Rattle.xp_like.specs.Patterns.{parts}
use Rattle.xp_like.specs.inner.Runs.{behind, fits, width}
use Rattle.xp_like.proofs.matching.find_run.Given as goal

abbrev pub invariant-loop-part : goal.invariant-loop-part
invariant-loop-part g l = record {
  fits : fits (parts (g.U.Units.units l.place)) (g.U.Units.units l.rest) ≡ fits (parts (g.U.Units.units l.fn.pattern)) (g.U.Units.units l.fn.text);
  behind : behind (parts (g.U.Units.units l.place)) ≡ behind (parts (g.U.Units.units l.fn.pattern));
  rest : drop (width (parts (g.U.Units.units l.place))) (g.U.Units.units l.rest) ≡ drop (width (parts (g.U.Units.units l.fn.pattern))) (g.U.Units.units l.fn.text);
  shorter : length (g.U.Units.units l.place) ≤ length (g.U.Units.units l.fn.pattern);
  no_longer : length (g.U.Units.units l.rest) ≤ length (g.U.Units.units l.fn.text);
}

abbrev pub decreases-loop-part : goal.decreases-loop-part
decreases-loop-part g l = length (g.U.Units.units l.place)
