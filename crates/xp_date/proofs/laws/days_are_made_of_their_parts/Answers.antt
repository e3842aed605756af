use Rattle.xp_date.proofs.Made.{made_parts}
use Rattle.xp_date.proofs.laws.days_are_made_of_their_parts.Goals as goal

pub returns : goal.returns
returns c = made_parts
