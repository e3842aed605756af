use Rattle.std.proofs.Common.{◌≡◌, ◌+◌, ◌++◌, drop, length, map}
use Rattle.xp_tree.specs.Term.{type_of}
use Rattle.xp_resolve.specs.Conversions.{arguments, none_yet}
use Rattle.xp_resolve.specs.inner.Sources.{AreSources, target_type}
use Rattle.xp_resolve.proofs.conversions.arguments.Given as goal

-- the trees so far, and what the others become, are all
abbrev pub invariant-loop-target : goal.invariant-loop-target
invariant-loop-target l = record {
  sources : AreSources l.scene.c l.queue;
  says : arguments l.scene l.at (record { trees = l.trees; nodes = l.nodes }) l.queue (drop l.target-index l.targets) ≡ arguments l.scene l.at (none_yet l.fn.nodes) l.fn.parts l.targets;
  left : length l.queue + l.target-index ≡ length l.fn.parts;
  typed : map type_of l.trees ++ map (target_type l.scene.c) (drop l.target-index l.targets) ≡ map (target_type l.scene.c) l.targets;
}
