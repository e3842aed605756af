-- Types as the steps of the choice look at them: each with its category, and whether it is preferred there (manual 10.2, 10.3, 53.64).
use Rattle.std.specs.Prelude.{List, map}
use Rattle.xp_base.specs.declared.numbers.TypeNo.{TypeNo}
use Rattle.xp_catalog.specs.Contents.{Contents}
use Rattle.xp_overload.specs.declared.slots.InSlot.{InSlot}
use Rattle.xp_types.specs.Readers.{category, preferred}

abbrev pub slot_of : Contents → TypeNo → InSlot
slot_of c type = record { ty = type; category = category c type; preferred = preferred c type }

abbrev pub slots_of : Contents → List TypeNo → List InSlot
slots_of c types = map (slot_of c) types
