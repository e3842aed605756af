use Rattle.std.proofs.Common.{refl}
use Rattle.xp_rows.specs.Records.{records_of}
use Rattle.xp_rows.proofs.records.records_in.Goals as goal

pub returns-clause-all : goal.returns-clause-all
unfolding records_of
returns-clause-all c = rw (c.from_reader.ensures.state, c.from_reader.ensures.source) refl
