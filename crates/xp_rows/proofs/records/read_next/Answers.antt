use Rattle.std.proofs.Common.{inl}
use Rattle.csv.specs.Reading.{error_kind}
use Rattle.csv.specs.Records.{fields_of}
use Rattle.xp_rows.proofs.Reading.{read_fault-outside, takes}
use Rattle.xp_rows.proofs.records.read_next.Goals as goal

pub returns-in-Ok-clause-records : goal.returns-in-Ok-clause-records
returns-in-Ok-clause-records c =
    let over = c.requires in
    let read = c.in-Ok.ensures in
    takes c.args.reader.now c.read_byte_record.new.self (fields_of c.read_byte_record.new.row) c.in-Ok.found over (read.reads over.trim over.ready) (inl (read.ready over.trim)) read.flexible

pub returns-in-Err-clause-outside : goal.returns-in-Err-clause-outside
returns-in-Err-clause-outside c = rw c.read_fault.ensures (read_fault-outside (error_kind c.in-Err.error))
