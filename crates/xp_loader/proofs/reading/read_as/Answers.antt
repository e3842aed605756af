use Rattle.csv.specs.Records.{fields_of}
use Rattle.xp_catalog.proofs.Ascii.{IsAscii-from_operator}
use Rattle.xp_loader.specs.Records.{field}
use Rattle.xp_loader.proofs.reading.read_as.Goals as goal

pub read_operator-requires : goal.read_operator-requires
read_operator-requires c = IsAscii-from_operator (field (fields_of c.args.row.now) 1) (rw c.in-Operator.is at c.requires)
