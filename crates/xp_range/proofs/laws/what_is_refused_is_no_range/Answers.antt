use Rattle.xp_range.proofs.Points.{difference_refused, union_refused}
use Rattle.xp_range.proofs.laws.what_is_refused_is_no_range.Goals as goal

pub returns-clause-union : goal.returns-clause-union
returns-clause-union c = union_refused

pub returns-clause-difference : goal.returns-clause-difference
returns-clause-difference c = difference_refused
