use Rattle.xp_range.proofs.Points.{before_points, contains_points, overlap_point, point_overlap}
use Rattle.xp_range.proofs.laws.relations_are_of_points.Goals as goal

pub returns-clause-contains : goal.returns-clause-contains
returns-clause-contains c = contains_points

pub returns-clause-overlap : goal.returns-clause-overlap
returns-clause-overlap c = overlap_point

pub returns-clause-common : goal.returns-clause-common
returns-clause-common c = point_overlap

pub returns-clause-before : goal.returns-clause-before
returns-clause-before c = before_points
