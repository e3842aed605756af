use Rattle.std.proofs.Common.{◌≡◌, rules}
use Rattle.xp_value.specs.declared.value.Range.TheVariants.{Bounds}
use Rattle.xp_range.specs.Sets.{merged}
use Rattle.xp_range.proofs.OfKind.{merged_result}
use Rattle.xp_range.proofs.sets.range_merge.Goals as goal

pub returns-in-Bounds-Bounds-clause-range : goal.returns-in-Bounds-Bounds-clause-range
returns-in-Bounds-Bounds-clause-range c =
    let range = Bounds c.outer_lower.result c.outer_upper.result c.in-Bounds-Bounds.kind in
    let e : range ≡ merged c.args.a c.args.b = search rules in
    merged_result range c.args.a c.args.b e
