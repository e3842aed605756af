use Rattle.std.proofs.Common.{◌≡◌, length, reverse}
use Rattle.xp_coerce.specs.Types.{node_type}
use Rattle.xp_tree.specs.Typed.{ArmsTyped}
use Rattle.xp_tree.specs.View.{arms_of}
use Rattle.xp_forms.specs.Cases.{arms_made, no_arms}
use Rattle.xp_forms.specs.inner.Arms.{AreResolved}
use Rattle.xp_forms.proofs.cases.arms_made.Given as goal

-- the arms so far, and what the others become, are all
abbrev pub invariant-loop-arm : goal.invariant-loop-arm
invariant-loop-arm l = record {
  sources : AreResolved l.scene.c (reverse l.left);
  says : arms_made l.scene l.at l.bool_type l.ty l.made (reverse l.left) ≡ arms_made l.scene l.at l.bool_type l.ty (no_arms l.fn.nodes) l.fn.whens;
  typed : ArmsTyped (node_type l.scene.c l.ty) (arms_of l.made.arms);
}

abbrev pub decreases-loop-arm : goal.decreases-loop-arm
decreases-loop-arm l = length l.left
