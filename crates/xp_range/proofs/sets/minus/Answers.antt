use Rattle.std.proofs.Common.{◌≡◌, rules}
use Rattle.xp_range.specs.Sets.{difference}
use Rattle.xp_range.proofs.OfKind.{difference_result}
use Rattle.xp_range.proofs.sets.minus.Goals as goal

pub returns-in-Bounds-clause-range : goal.returns-in-Bounds-clause-range
returns-in-Bounds-clause-range c =
    let e : c.single.result ≡ difference c.args.a c.args.b = search rules in
    difference_result c.single.result c.args.a c.args.b e
