use Rattle.std.proofs.Common.{◌∙◌, reverse}
use Rattle.xp_resolve.proofs.Converting.{first_is, rest_are}
use Rattle.xp_forms.specs.inner.Arms.{IsResolved}
use Rattle.xp_forms.proofs.Armed.{arms_more, left_is}
use Rattle.xp_forms.proofs.cases.arms_made.Goals as goal

pub arm_made-requires-clause-arm : goal.arm_made-requires-clause-arm
arm_made-requires-clause-arm c =
    first_is (IsResolved c.args.scene.now.c) (reverse c.loop-arm.left) c.in-Some.arm (reverse c.pop.new.self) c.loop-arm.invariant.sources
    (left_is c.loop-arm.left c.pop.new.self c.in-Some.arm c.in-Some.ensures)

pub loop-arm-preserved : goal.loop-arm-preserved
loop-arm-preserved c =
    let next = left_is c.loop-arm.left c.pop.new.self c.in-Some.arm c.in-Some.ensures in
    record {
      sources = rest_are (IsResolved c.args.scene.now.c) (reverse c.loop-arm.left) c.in-Some.arm (reverse c.pop.new.self) c.loop-arm.invariant.sources next;
      says = arms_more c.args.scene.now c.args.at c.args.bool_type c.args.ty c.loop-arm.made c.in_ok-made.made (reverse c.loop-arm.left) (reverse c.pop.new.self) c.in-Some.arm next c.in_ok-made.ensures.value ∙ c.loop-arm.invariant.says;
      typed = c.in_ok-made.ensures.typed c.loop-arm.invariant.typed;
    }
