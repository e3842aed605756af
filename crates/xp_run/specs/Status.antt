-- The status of a process, by how its run ended.
use Rattle.std.specs.Prelude.{ℕ, Bool, cond}
use Rattle.xp_run.specs.declared.ending.Ending.{Ending}
use Rattle.xp_run.specs.declared.ending.Ending.TheVariants.{Done, BadWords, BadCatalog, BadRows, TooLong, ReadFault, WriteFault, Memory}

-- `fine` is whether every block ends in `ok`
abbrev pub status_of : Bool → Ending → ℕ
status_of fine (Done steps) = cond fine 0 1
status_of fine BadWords = 2
status_of fine (BadCatalog line why) = 2
status_of fine (BadRows fault) = 2
status_of fine (TooLong read) = 2
status_of fine ReadFault = 3
status_of fine WriteFault = 4
status_of fine Memory = 5
