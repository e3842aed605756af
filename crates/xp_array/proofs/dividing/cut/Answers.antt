use Rattle.std.proofs.Common.{◌≡◌, ◌<◌, length, arith}
use Rattle.xp_array.proofs.Cut.{first_field, one_field, without_delimiter}
use Rattle.xp_array.proofs.dividing.cut.Goals as goal

pub returns-then-is_empty-clause-cases : goal.returns-then-is_empty-clause-cases
returns-then-is_empty-clause-cases c =
    let none : length c.args.delimiter.now ≡ 0 = grind arith in
    without_delimiter c.args.text.now c.args.delimiter.now none

pub returns-in-None-clause-cases : goal.returns-in-None-clause-cases
returns-in-None-clause-cases c = one_field c.args.text.now c.args.delimiter.now c.in-None.ensures.cases

pub returns-in-Some-clause-cases : goal.returns-in-Some-clause-cases
returns-in-Some-clause-cases c =
    let some : 0 < length c.args.delimiter.now = grind arith in
    first_field c.args.text.now c.args.delimiter.now c.in-Some.field.now c.in-Some.behind.now some c.in-Some.ensures.cases
