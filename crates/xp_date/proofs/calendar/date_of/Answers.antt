use Rattle.std.proofs.Common.{rules, ◌≡◌}
use Rattle.jiff_core.specs.Date.{epoch_day}
use Rattle.xp_date.proofs.Parts.{parts_of}
use Rattle.xp_date.proofs.calendar.date_of.Goals as goal

pub returns-clause-year : goal.returns-clause-year
returns-clause-year c =
    let day : epoch_day c.unwrap.result ≡ c.args.day = search rules in
    (parts_of c.unwrap.result c.args.day c.requires day).0

pub returns-clause-month : goal.returns-clause-month
returns-clause-month c =
    let day : epoch_day c.unwrap.result ≡ c.args.day = search rules in
    (parts_of c.unwrap.result c.args.day c.requires day).1

pub returns-clause-place : goal.returns-clause-place
returns-clause-place c =
    let day : epoch_day c.unwrap.result ≡ c.args.day = search rules in
    (parts_of c.unwrap.result c.args.day c.requires day).2
