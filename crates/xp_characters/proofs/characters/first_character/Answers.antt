use Rattle.std.proofs.Common.{arith, rules}
use Rattle.std.proofs.lemmas.Grind.{common_steps}
use Rattle.std.proofs.lemmas.Str.{chars_past_char}
use Rattle.xp_characters.proofs.characters.first_character.Goals as goal

pub returns-clause-cases : goal.returns-clause-cases
returns-clause-cases c = chars_past_char _ _ _ c.utf8.text (search rules)
