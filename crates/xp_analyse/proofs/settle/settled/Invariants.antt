use Rattle.std.proofs.Common.{◌≡◌, ◌+◌, length}
use Rattle.xp_resolve.specs.Conversions.{none_yet}
use Rattle.xp_resolve.specs.inner.Sources.{AreSources}
use Rattle.xp_analyse.specs.Statements.{settled}
use Rattle.xp_analyse.proofs.settle.settled.Given as goal

-- the trees so far, and what the others become, are all
abbrev pub invariant-loop-part : goal.invariant-loop-part
invariant-loop-part l = record {
  sources : AreSources l.scene.c l.queue;
  says : settled l.scene (record { trees = l.trees; nodes = l.nodes }) l.queue ≡ settled l.scene (none_yet l.fn.nodes) l.fn.parts;
  count : length l.trees + length l.queue ≡ length l.fn.parts;
}

abbrev pub decreases-loop-part : goal.decreases-loop-part
decreases-loop-part l = length l.queue
