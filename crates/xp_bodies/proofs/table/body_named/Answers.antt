use Rattle.std.proofs.Common.{◌<◌, length, arith}
use Rattle.xp_bodies.specs.Table.{bodies}
use Rattle.xp_bodies.proofs.Count.{few_bodies, place_within}
use Rattle.xp_bodies.proofs.table.body_named.Goals as goal

pub place_among-requires : goal.place_among-requires
place_among-requires c = rw c.families.ensures few_bodies

pub overflow_cast-result : goal.overflow_cast-result
overflow_cast-result c =
    let within : c.in-Some.place < length bodies = place_within c.args.name.now _ c.in-Some.place c.in-Some.ensures c.families.ensures in
    omega (arith, within, few_bodies)
