use Rattle.std.proofs.lemmas.Str.{encodes-chars}
use Rattle.xp_text.proofs.owned.owned.Goals as goal

pub returns : goal.returns
returns c = rw (encodes-chars c.args.part.now c.utf8.part) c.from_str.ensures
