use Rattle.std.proofs.Common.{arith}
use Rattle.xp_depth.proofs.Deep.{around_pushed, added_pushed}
use Rattle.xp_depth.proofs.depth.Groups.left.Goals as goal

pub invariant_of-result-2 : goal.invariant_of-result-2
invariant_of-result-2 c =
    let e = around_pushed c.in-Some.last c.pop.new.self.items c.args.self.outer.items c.in-Some.ensures.items in
    let f = added_pushed c.in-Some.last c.pop.new.self.items c.args.self.outer.items c.in-Some.ensures.items in
    record {
      counted = omega (arith, f, c.args.self.counted);
      fits = rw (c.with_group.ensures, c.deepest.ensures) (omega (arith, e, f, c.args.self.counted, c.args.self.fits, c.args.self.around));
      around = omega (arith, e, c.args.self.around);
    }
