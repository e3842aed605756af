use Rattle.std.proofs.Common.{to_z-of_z, ◌∙◌}
use Rattle.xp_date.proofs.Weeks.{week_parts}
use Rattle.xp_date.proofs.calendar.week_date_of.Goals as goal

pub returns-clause-year : goal.returns-clause-year
returns-clause-year c = (week_parts c.from_date.result c.args.day c.requires (c.from_date.ensures ∙ c.date_of.ensures.day ∙ to_z-of_z c.ranges.day)).0

pub returns-clause-week : goal.returns-clause-week
returns-clause-week c = (week_parts c.from_date.result c.args.day c.requires (c.from_date.ensures ∙ c.date_of.ensures.day ∙ to_z-of_z c.ranges.day)).1
