use Rattle.xp_numeric.proofs.RoundTrip.{read_back}
use Rattle.xp_numeric.proofs.laws.texts_are_read_back.Goals as goal

pub returns : goal.returns
returns c = read_back
