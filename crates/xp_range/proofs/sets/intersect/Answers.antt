use Rattle.std.proofs.Common.{◌≡◌, rules}
use Rattle.xp_range.specs.Sets.{intersection}
use Rattle.xp_range.proofs.OfKind.{intersection_result}
use Rattle.xp_range.proofs.sets.intersect.Goals as goal

pub returns-in-Bounds-Bounds-clause-range : goal.returns-in-Bounds-Bounds-clause-range
returns-in-Bounds-Bounds-clause-range c =
    let e : c.between.result ≡ intersection c.args.a c.args.b = search rules in
    intersection_result c.between.result c.args.a c.args.b e
