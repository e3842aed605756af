use Rattle.std.proofs.Common.{◌≡◌}
use Rattle.std.specs.Fmt.{decimal}
use Rattle.xp_numeric.specs.Texts.{text}
use Rattle.xp_resolve.proofs.literals.number.Goals as goal

pub returns-in-Some-clause-value : goal.returns-in-Some-clause-value
returns-in-Some-clause-value c =
    let same : text c.args.value ≡ decimal c.in-Some.digits = rw c.in-Some.is at c.digits_of.ensures in
    rw (← c.number_type-name.ensures, same) c.whole_number.ensures.value

pub returns-in-None-clause-value : goal.returns-in-None-clause-value
returns-in-None-clause-value c = rw (← c.number_type-name.ensures) c.written_number.ensures.value
