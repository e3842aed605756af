-- What stands in the place of a text: an error, or want of memory. The limit on the bytes of a value.
use Rattle.std.specs.Prelude.{ℕ, nat_le, Bool, true, false, if◌then◌else◌, List, length, Result, Ok, Err}
use Rattle.xp_base.specs.declared.codes.EvalError.TheVariants as error
use Rattle.xp_base.specs.declared.limits.TheConstants.{VALUE_LIMIT}
use Rattle.xp_characters.specs.declared.fault.TextFault.{TextFault}
use Rattle.xp_characters.specs.declared.fault.TextFault.TheVariants as fault

abbrev pub is_memory : TextFault → Bool
is_memory fault.Memory = true
is_memory (fault.Raised e) = false

abbrev pub too_large : TextFault
too_large = fault.Raised error.Limit

abbrev pub bad_parameter : TextFault
bad_parameter = fault.Raised error.BadParameter

-- these bytes, where they are no more than a value may have
abbrev pub limited : List ℕ → Result (List ℕ) TextFault
limited bytes = if nat_le (length bytes) VALUE_LIMIT then Ok bytes else Err too_large

-- a result that isn't an error is changed so
abbrev pub changed : (List ℕ → List ℕ) → Result (List ℕ) TextFault → Result (List ℕ) TextFault
changed change (Ok bytes) = Ok (change bytes)
changed change (Err f) = Err f
