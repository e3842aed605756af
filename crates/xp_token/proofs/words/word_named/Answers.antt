use Rattle.xp_token.specs.Words.{word_named}
use Rattle.xp_token.proofs.words.word_named.Goals as goal

pub returns : goal.returns
unfolding word_named
returns c = c.lookup.ensures
