use Rattle.std.proofs.Common.{ap, ◌∙◌, pos, to_z-of_z}
use Rattle.xp_date.specs.Days.{year_of}
use Rattle.xp_date.proofs.Parts.{place_in_year}
use Rattle.xp_date.proofs.fields.day_of_year.Goals as goal

pub returns : goal.returns
returns c =
    let same = to_z-of_z c.ranges.day in
    place_in_year c.date_of.result (year_of c.args.day) c.day_of_year.result c.args.day (c.date_of.ensures.year ∙ ap (λ z. pos (year_of z)) same) (c.date_of.ensures.day ∙ same) c.day_of_year.ensures.value
