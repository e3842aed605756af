use Rattle.xp_range.proofs.Points.{difference_points, intersection_points, union_points}
use Rattle.xp_range.proofs.laws.ranges_are_sets.Goals as goal

pub returns-clause-union : goal.returns-clause-union
returns-clause-union c = λ a b r k of other e p. union_points a b r k p of other e

pub returns-clause-intersection : goal.returns-clause-intersection
returns-clause-intersection c = intersection_points

pub returns-clause-difference : goal.returns-clause-difference
returns-clause-difference c = λ a b r e p. difference_points a b r p e
