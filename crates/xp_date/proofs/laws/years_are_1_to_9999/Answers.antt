use Rattle.std.proofs.Common.{ap}
use Rattle.std.specs.Prelude.{Ok}
use Rattle.jiff_core.proofs.DateLemmas.{days_from_civil-max}
use Rattle.xp_date.proofs.Parts.{first_day}
use Rattle.xp_date.proofs.laws.years_are_1_to_9999.Goals as goal

pub returns-clause-first : goal.returns-clause-first
returns-clause-first c = ap Ok first_day

pub returns-clause-last : goal.returns-clause-last
returns-clause-last c = ap Ok days_from_civil-max
