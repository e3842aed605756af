-- What reading within a limit answers, over what a reader has left.
use Rattle.std.specs.Prelude.{◌≡◌, ℕ, ◌+◌, ◌<◌, ◌≤◌, List, length, Option, IfSome, Result, Ok, Err}
use Rattle.std.specs.Io.KnownBytes.{Consumes}
use Rattle.xp_base.specs.declared.outside.LoadFault.{LoadFault}
use Rattle.xp_base.specs.declared.outside.LoadFault.TheVariants as fault

-- all that is left, where the limit allows it; or that more is left than the limit allows
abbrev pub AnswersReading : Option (List ℕ) → ℕ → Result (List ℕ) LoadFault → Type 0
AnswersReading left limit (Ok text) = IfSome left (λ whole. text ≡ whole) × (length text ≤ limit)
AnswersReading left limit (Err fault.Failed) = Unit {0}
AnswersReading left limit (Err (fault.TooLong read)) = IfSome left (λ whole. limit < length whole) × (read ≡ limit + 1)
AnswersReading left limit (Err fault.Memory) = Unit {0}

-- no more bytes than these are taken from the reader
abbrev pub TakesAtMost : Option (List ℕ) → Option (List ℕ) → ℕ → Type 0
TakesAtMost old new most = (taken : List ℕ) × Consumes old new taken × (length taken ≤ most)
