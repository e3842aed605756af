use Rattle.std.proofs.Common.{refl}
use Rattle.xp_bodies.specs.Table.{bodies}
use Rattle.xp_bodies.proofs.table.families.Goals as goal

pub returns : goal.returns
unfolding bodies
returns c =
    rw (
      c.arithmetic.ensures,
      c.comparisons.ensures,
      c.integers.ensures,
      c.numerics.ensures,
      c.texts.ensures,
      c.edits.ensures,
      c.dates.ensures,
      c.arrays.ensures,
      c.ranges-2.ensures,
    ) refl
