use Rattle.std.proofs.Common.{◌≡◌, ap, ◌∙◌, arith, FitsSigned, w32, w64, to_z, of_z, ◌-ℤ◌}
use Rattle.jiff_core.proofs.SignedLemmas.{signed_arith}
use Rattle.xp_date.specs.Days.{within_years}
use Rattle.xp_date.proofs.days.sub_date_int4.Goals as goal

pub returns : goal.returns
returns c =
    let day : FitsSigned w32 c.args.day = c.ranges.day in
    let count : FitsSigned w32 c.args.count = c.ranges.count in
    let same : to_z w64 (of_z w64 (to_z w64 (of_z w64 c.from.result) -ℤ to_z w64 (of_z w64 c.from-2.result))) ≡ c.args.day -ℤ c.args.count = omega (arith, signed_arith, c.from.ensures, c.from-2.ensures) in
    c.within_years.ensures ∙ ap within_years same
