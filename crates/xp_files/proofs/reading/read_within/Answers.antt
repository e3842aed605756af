use Rattle.std.proofs.Common.{rules, ◌++◌, take}
use Rattle.std.proofs.KnownBytes.{Consumes-trans}
use Rattle.std.proofs.lemmas.List.{places}
use Rattle.xp_files.proofs.reading.read_within.Goals as goal

pub returns-then-count-left-clause-budget : goal.returns-then-count-left-clause-budget
returns-then-count-left-clause-budget g c =
    (c.loop.text ++ take c.in-Ok.count c.read.new.buf, Consumes-trans _ _ _ _ _ c.loop.invariant.taken c.in-Ok.ensures.bytes.0, search (rules, places))

pub returns-in_err-append-clause-budget : goal.returns-in_err-append-clause-budget
returns-in_err-append-clause-budget g c =
    (c.loop.text ++ take c.in-Ok.count c.read.new.buf, Consumes-trans _ _ _ _ _ c.loop.invariant.taken c.in-Ok.ensures.bytes.0, search (rules, places))
