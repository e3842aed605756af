use Rattle.std.proofs.Common.{arith}
use Rattle.xp_depth.proofs.Deep.{around_pushed}
use Rattle.xp_depth.proofs.depth.Groups.entered.Goals as goal

pub within-requires-clause-around : goal.within-requires-clause-around
within-requires-clause-around c =
    let e = around_pushed c.args.self.part c.args.self.outer.items c.push.new.self.items c.in_ok-push.ensures.items in
    omega (arith, e, c.args.self.fits, c.args.self.counted, c.args.self.around)
