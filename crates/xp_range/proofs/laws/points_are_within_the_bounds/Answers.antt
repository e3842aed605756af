use Rattle.xp_range.proofs.Given.{made_points}
use Rattle.xp_range.proofs.laws.points_are_within_the_bounds.Goals as goal

pub returns : goal.returns
returns c = made_points
