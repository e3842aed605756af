-- What a text that can't be read comes to.
use Rattle.xp_io.specs.declared.reading.InFault.{InFault}
use Rattle.xp_io.specs.declared.reading.InFault.TheVariants as reading
use Rattle.xp_coerce.specs.declared.fault.CoerceFault.{CoerceFault}
use Rattle.xp_coerce.specs.declared.fault.CoerceFault.TheVariants as coercing
use Rattle.xp_coerce.specs.Coerced.{bad_literal}

abbrev pub fault_of : InFault → CoerceFault
fault_of (reading.Bad error) = bad_literal error
fault_of reading.Memory = coercing.Memory
