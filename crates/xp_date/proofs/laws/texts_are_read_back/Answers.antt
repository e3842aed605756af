use Rattle.xp_date.proofs.Digits.{read_back}
use Rattle.xp_date.proofs.laws.texts_are_read_back.Goals as goal

pub returns : goal.returns
returns c = read_back
