use Rattle.xp_range.proofs.ReadBack.{text_back}
use Rattle.xp_range.proofs.laws.texts_are_read_back.Goals as goal

pub returns : goal.returns
returns c = text_back
