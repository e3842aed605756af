use Rattle.xp_resolve.proofs.Converting.{converted_is}
use Rattle.xp_resolve.proofs.conversions.convert.Goals as goal

pub returns-in-Ok-clause-value : goal.returns-in-Ok-clause-value
returns-in-Ok-clause-value c =
    converted_is c.args.scene.now c.args.at c.args.nodes c.args.part c.args.named c.args.context c.in-Ok.tree c.in_place_of.result
    (rw (c.catalog-c.ensures, c.checks-k.ensures) at c.in-Ok.ensures.value) (c.in_place_of.ensures c.args.part.tree c.size-before.ensures)
