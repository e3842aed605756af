use Rattle.std.proofs.Common.{◌≡◌, rules, Ok}
use Rattle.xp_range.specs.Constructors.{made}
use Rattle.xp_range.proofs.OfKind.{made_result}
use Rattle.xp_range.proofs.constructors.make_range_of.Goals as goal

pub returns-clause-range : goal.returns-clause-range
returns-clause-range c =
    let e : Ok c.between.result ≡ made c.args.kind c.args.flags c.args.lower c.args.upper = search rules in
    made_result c.between.result c.args.kind c.args.flags c.args.lower c.args.upper e
