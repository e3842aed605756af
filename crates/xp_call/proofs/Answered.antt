-- A text or bytes that stand for what is said, as values, stand for the value of it.
use Rattle.std.proofs.Common.{ℕ, List, ap, Ok, Err}
use Rattle.std.specs.Prelude.{Result}
use Rattle.xp_base.specs.OrMemory.{OrMemory}
use Rattle.xp_characters.specs.Faults.{is_memory}
use Rattle.xp_characters.specs.declared.fault.TextFault.{TextFault}
use Rattle.xp_characters.specs.declared.fault.TextFault.TheVariants as fault
use Rattle.xp_call.specs.Arguments.{bytes, text}
use Rattle.xp_call.specs.Calls.{Calls, answered}
use Rattle.xp_call.specs.inner.Answers.{bytes_value, text_value}

pub as_text : (said result : Result (List ℕ) TextFault) → OrMemory is_memory said result → Calls (text said) (text_value result)
as_text said (Ok t) e = ap (λ s. answered (text s)) e
as_text said (Err (fault.Raised error)) e = ap (λ s. answered (text s)) e
as_text said (Err fault.Memory) e = tt

pub as_bytes : (said result : Result (List ℕ) TextFault) → OrMemory is_memory said result → Calls (bytes said) (bytes_value result)
as_bytes said (Ok b) e = ap (λ s. answered (bytes s)) e
as_bytes said (Err (fault.Raised error)) e = ap (λ s. answered (bytes s)) e
as_bytes said (Err fault.Memory) e = tt
