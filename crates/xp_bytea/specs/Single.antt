-- Single bytes of byte strings, whose places count from 0 (manual 9.5).
use Rattle.std.specs.Prelude.{ℕ, ◌-◌, ◌%◌, ℤ, pos, negsuc, nat_lt, if◌then◌else◌, List, length, slice_index, slice_set, Option, Some, None, Result, Ok, Err}
use Rattle.xp_base.specs.declared.codes.EvalError.{EvalError}
use Rattle.xp_base.specs.declared.codes.EvalError.TheVariants as error
use Rattle.xp_characters.specs.declared.fault.TextFault.{TextFault}
use Rattle.xp_characters.specs.declared.fault.TextFault.TheVariants as fault

-- the place among so many bytes
abbrev pub place_in : ℕ → ℤ → Option ℕ
place_in size (pos n) = if nat_lt n size then Some n else None
place_in size (negsuc n) = None

-- a number modulo 256
abbrev pub byte_of : ℤ → ℕ
byte_of (pos n) = n % 256
byte_of (negsuc n) = 255 - n % 256

abbrev pub got : List ℕ → Option ℕ → Result ℕ EvalError
got bytes None = Err error.BadSubscript
got bytes (Some place) = Ok (slice_index bytes place)

abbrev pub get_byte : List ℕ → ℤ → Result ℕ EvalError
get_byte bytes n = got bytes (place_in (length bytes) n)

abbrev pub changed_at : List ℕ → Option ℕ → ℕ → Result (List ℕ) TextFault
changed_at bytes None byte = Err (fault.Raised error.BadSubscript)
changed_at bytes (Some place) byte = Ok (slice_set bytes place byte)

-- the new value is taken modulo 256
abbrev pub set_byte : List ℕ → ℤ → ℤ → Result (List ℕ) TextFault
set_byte bytes n value = changed_at bytes (place_in (length bytes) n) (byte_of value)
