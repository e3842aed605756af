use Rattle.std.proofs.Common.{w32, to_z, of_z}
use Rattle.xp_date.proofs.Made.{result_is_date}
use Rattle.xp_date.proofs.texts.made_of.Goals as goal

pub returns-in-Some-Some-Some-clause-years : goal.returns-in-Some-Some-Some-clause-years
returns-in-Some-Some-Some-clause-years c =
    let y = to_z w32 (of_z w32 c.from.result) in
    let m = to_z w32 (of_z w32 c.from-in-Some-Some-Some.result) in
    let d = to_z w32 (of_z w32 c.from-in-Some-Some-Some-2.result) in
    result_is_date c.make_date.result y m d c.make_date.ensures
