-- What the functions of texts answer, as what a call answers.
use Rattle.std.specs.Prelude.{ℕ, List, Result, Ok, Err}
use Rattle.xp_characters.specs.declared.fault.TextFault.{TextFault}
use Rattle.xp_characters.specs.declared.fault.TextFault.TheVariants as text_fault
use Rattle.xp_value.specs.declared.value.Value.{Value}
use Rattle.xp_value.specs.declared.value.Value.TheVariants as value
use Rattle.xp_call.specs.declared.fault.CallFault.{CallFault}
use Rattle.xp_call.specs.declared.fault.CallFault.TheVariants as fault

abbrev pub fault_of : TextFault → CallFault
fault_of (text_fault.Raised error) = fault.Raised error
fault_of text_fault.Memory = fault.Memory

abbrev pub text_value : Result (List ℕ) TextFault → Result Value CallFault
text_value (Ok text) = Ok (value.Text text)
text_value (Err f) = Err (fault_of f)

abbrev pub bytes_value : Result (List ℕ) TextFault → Result Value CallFault
bytes_value (Ok bytes) = Ok (value.Bytes bytes)
bytes_value (Err f) = Err (fault_of f)
