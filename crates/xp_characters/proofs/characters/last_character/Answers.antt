use Rattle.std.proofs.Common.{◌≡◌, arith, rules, ap, ◌∙◌, length}
use Rattle.std.proofs.lemmas.List.{nil_from_length}
use Rattle.std.proofs.lemmas.Str.{chars-nil}
use Rattle.std.specs.Str.{chars}
use Rattle.xp_characters.proofs.Encoded.{chars_with_last}
use Rattle.xp_characters.proofs.characters.last_character.Goals as goal

pub returns-in-Some-clause-cases : goal.returns-in-Some-clause-cases
returns-in-Some-clause-cases c = chars_with_last _ _ _ c.utf8.text c.as_str.utf8 (search rules)

pub returns-in-None-clause-cases : goal.returns-in-None-clause-cases
returns-in-None-clause-cases c =
    let none : length c.args.text.now ≡ 0 = omega (arith, c.in-None.ensures.steps, ap length c.chars-rest.ensures.rest) in
    ap chars (nil_from_length c.args.text.now none) ∙ chars-nil
