use Rattle.std.proofs.Common.{◌∙◌, sym}
use Rattle.csv.specs.Records.{fields_of}
use Rattle.xp_loader.proofs.KnownNames.{built-first}
use Rattle.xp_loader.proofs.Said.{Said-record}
use Rattle.xp_loader.proofs.record.read_row.Goals as goal

pub broken_row-requires-clause-known : goal.broken_row-requires-clause-known
broken_row-requires-clause-known c = (Said-record c.args.c.now (built-first c.requires.room.count c.args.c.now c.requires.room.built) c.args.kind c.args.line (fields_of c.args.row.now) c.in-Some.record (sym c.in_ok-record.ensures ∙ c.in-Some.is)).types
