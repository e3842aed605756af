use Rattle.std.proofs.Common.{◌≡◌, ◌*◌, arith, length, []}
use Rattle.std.proofs.lemmas.Grind.{common_steps}
use Rattle.xp_text.specs.Made.{repeated}
use Rattle.xp_text.proofs.Copies.{copies_of_nothing, length_copies}
use Rattle.xp_text.proofs.joining.copies.Goals as goal

pub returns-then-is_empty : goal.returns-then-is_empty
returns-then-is_empty c =
    let empty : length c.args.a.now ≡ 0 = grind arith in
    let none : repeated c.args.count c.args.a.now ≡ [] = copies_of_nothing c.args.count c.args.a.now empty in
    grind (arith, common_steps)

pub returns-in_err-check_size : goal.returns-in_err-check_size
returns-in_err-check_size c =
    let size : length (repeated c.args.count c.args.a.now) ≡ length c.args.a.now * c.args.count = length_copies c.args.count c.args.a.now in
    grind (arith, common_steps)

pub returns : goal.returns
returns c =
    let size : length (repeated c.args.count c.args.a.now) ≡ length c.args.a.now * c.args.count = length_copies c.args.count c.args.a.now in
    grind (arith, common_steps)
