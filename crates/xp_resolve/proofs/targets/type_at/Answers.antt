use Rattle.std.proofs.Common.{refl}
use Rattle.xp_resolve.proofs.targets.type_at.Goals as goal

pub returns-in-ElementsWritten-clause-value : goal.returns-in-ElementsWritten-clause-value
returns-in-ElementsWritten-clause-value c =
    rw (c.in-ElementsWritten.is, c.unwrap_or.ensures, c.array_of.ensures.value, c.text_or_unknown-in-ElementsWritten.ensures.value) refl
