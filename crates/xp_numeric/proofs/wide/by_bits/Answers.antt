use Rattle.std.proofs.Common.{◌≡◌, ◌+◌, ◌-◌, ◌*◌, ◌/◌, ◌%◌, ◌^◌, sym, ap, ◌∙◌, arith}
use Rattle.std.proofs.Math.Nat.{div-le_self}
use Rattle.xp_numeric.proofs.Division.{quotient_below, half_more, step_clear, step_set}
use Rattle.xp_numeric.proofs.wide.by_bits.Goals as goal

pub reduced-requires-then-factor-bits-eq1-clause-room : goal.reduced-requires-then-factor-bits-eq1-clause-room
reduced-requires-then-factor-bits-eq1-clause-room c =
    let l = c.loop-bits in
    let s = c.args.size in
    let e : l.bits - 1 + 1 ≡ l.bits = omega arith in
    let v : s * (c.args.factor / 2 ^ l.bits) + s * (c.args.factor / 2 ^ l.bits) ≡ s * (2 * (c.args.factor / 2 ^ l.bits)) = omega arith in
    let w : c.reduced.result.0 * c.args.divisor + c.reduced.result.1 ≡ s * (2 * (c.args.factor / 2 ^ l.bits)) = omega (arith, c.reduced.ensures.value, l.invariant.value) in
    let b = quotient_below c.reduced.result.0 c.reduced.result.1 c.args.divisor s (2 * (c.args.factor / 2 ^ l.bits)) w c.requires.below in
    let h = half_more c.args.factor (l.bits - 1) in
    let h' : c.args.factor / 2 ^ (l.bits - 1) ≡ 2 * (c.args.factor / 2 ^ l.bits) + (c.args.factor / 2 ^ (l.bits - 1)) % 2 = h ∙ ap (λ k. 2 * (c.args.factor / 2 ^ k) + (c.args.factor / 2 ^ (l.bits - 1)) % 2) e in
    let d = div-le_self c.args.factor (2 ^ (l.bits - 1)) in
    omega arith

pub loop-bits-preserved-then-factor-bits-eq1 : goal.loop-bits-preserved-then-factor-bits-eq1
loop-bits-preserved-then-factor-bits-eq1 c =
    let l = c.loop-bits in
    let e : l.bits - 1 + 1 ≡ l.bits = omega arith in
    let v : l.quotient * c.args.divisor + l.rest ≡ c.args.size * (c.args.factor / 2 ^ (l.bits - 1 + 1)) = l.invariant.value ∙ ap (λ k. c.args.size * (c.args.factor / 2 ^ k)) (sym e) in
    record {
      in_range = omega arith;
      below = c.reduced-then-factor-bits-eq1.ensures.below;
      value = step_set l.quotient l.rest c.args.divisor c.args.size c.args.factor (l.bits - 1) c.reduced.result.0 c.reduced.result.1 c.reduced-then-factor-bits-eq1.result.0 c.reduced-then-factor-bits-eq1.result.1
          v c.reduced.ensures.value c.reduced-then-factor-bits-eq1.ensures.value c.if-factor-bits-eq1.true;
    }

pub loop-bits-preserved : goal.loop-bits-preserved
loop-bits-preserved c =
    let l = c.loop-bits in
    let e : l.bits - 1 + 1 ≡ l.bits = omega arith in
    let v : l.quotient * c.args.divisor + l.rest ≡ c.args.size * (c.args.factor / 2 ^ (l.bits - 1 + 1)) = l.invariant.value ∙ ap (λ k. c.args.size * (c.args.factor / 2 ^ k)) (sym e) in
    record {
      in_range = omega arith;
      below = c.reduced.ensures.below;
      value = step_clear l.quotient l.rest c.args.divisor c.args.size c.args.factor (l.bits - 1) c.reduced.result.0 c.reduced.result.1 v c.reduced.ensures.value (omega (arith, c.if-factor-bits-eq1.false));
    }
