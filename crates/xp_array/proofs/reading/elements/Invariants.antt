use Rattle.std.proofs.Common.{◌≡◌, ◌-◌}
use Rattle.xp_array.specs.Read.{elements}
use Rattle.xp_array.proofs.Lists.{behind_texts}
use Rattle.xp_array.proofs.reading.elements.Given as goal

abbrev pub invariant-loop : goal.invariant-loop
invariant-loop l = elements l.limit l.text ≡ behind_texts l.texts (elements (l.limit - l.counter) l.rest)
