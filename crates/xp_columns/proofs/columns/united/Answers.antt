use Rattle.std.proofs.Common.{◌≡◌, ◌+◌, length, ◌∙◌, ap, arith, reverse}
use Rattle.std.proofs.lemmas.List.{length_push}
use Rattle.xp_resolve.specs.inner.Sources.{AreSources}
use Rattle.xp_resolve.proofs.Converting.{first_is, rest_are}
use Rattle.xp_forms.proofs.Armed.{left_is}
use Rattle.xp_columns.specs.declared.columns.UnionArm.{UnionArm}
use Rattle.xp_columns.proofs.Listing.{arms_more}
use Rattle.xp_columns.proofs.columns.united.Goals as goal

pub arm_joined-requires-clause-items : goal.arm_joined-requires-clause-items
arm_joined-requires-clause-items c =
    first_is (λ (arm : UnionArm). AreSources c.args.scene.now.c arm.items) (reverse c.loop-arm.left) c.in-Some.arm (reverse c.pop.new.self) c.loop-arm.invariant.arms
    (left_is c.loop-arm.left c.pop.new.self c.in-Some.arm c.in-Some.ensures)

pub loop-arm-preserved : goal.loop-arm-preserved
loop-arm-preserved c =
    let fewer : length c.loop-arm.left ≡ length c.pop.new.self + 1 = ap length c.in-Some.ensures ∙ length_push c.pop.new.self c.in-Some.arm in
    let next = left_is c.loop-arm.left c.pop.new.self c.in-Some.arm c.in-Some.ensures in
    record {
      arms = rest_are (λ (arm : UnionArm). AreSources c.args.scene.now.c arm.items) (reverse c.loop-arm.left) c.in-Some.arm (reverse c.pop.new.self) c.loop-arm.invariant.arms next;
      says = arms_more c.args.scene.now c.loop-arm.made c.in_ok-made.made (reverse c.loop-arm.left) (reverse c.pop.new.self) c.in-Some.arm next c.in_ok-made.ensures.value ∙ c.loop-arm.invariant.says;
      sources = c.in_ok-made.ensures.sources;
      few = omega (arith, fewer);
      count = omega (arith, fewer, c.loop-arm.invariant.count, c.in_ok-made.ensures.count);
      widths = λ width some all. c.in_ok-made.ensures.widths width (omega (arith, fewer, c.loop-arm.invariant.count, c.loop-arm.invariant.few)) (c.loop-arm.invariant.widths width some all);
    }
