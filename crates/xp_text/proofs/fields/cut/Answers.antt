use Rattle.std.proofs.Common.{◌≡◌, ◌<◌, length, arith}
use Rattle.std.specs.Str.{chars}
use Rattle.xp_text.proofs.Cut.{divided, some_characters, undivided, without_delimiter}
use Rattle.xp_text.proofs.fields.cut.Goals as goal

pub returns-then-is_empty-clause-cases : goal.returns-then-is_empty-clause-cases
returns-then-is_empty-clause-cases c =
    let none : length c.args.delimiter.now ≡ 0 = grind arith in
    without_delimiter c.args.delimiter.now (chars c.args.a.now) none

pub returns-in-None-clause-cases : goal.returns-in-None-clause-cases
returns-in-None-clause-cases c = undivided _ _ c.in-None.ensures.place

pub returns-in-Some-clause-cases : goal.returns-in-Some-clause-cases
returns-in-Some-clause-cases c =
    let some : 0 < length c.args.delimiter.now = grind arith in
    divided _ _ _ _ (some_characters c.args.delimiter.now c.utf8.delimiter some) c.in-Some.ensures.characters c.in-Some.ensures.place
