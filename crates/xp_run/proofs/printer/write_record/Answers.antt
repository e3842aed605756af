use Rattle.std.proofs.lemmas.Result.{on_ok_weaker}
use Rattle.csv.specs.Records.{fields_of}
use Rattle.csv.specs.Writing.{writer_pending, writer_setup, writer_under}
use Rattle.xp_run.proofs.Plain.{reads_no_number, text_grows}
use Rattle.xp_run.proofs.printer.write_record.Goals as goal

pub returns-clause-text : goal.returns-clause-text
returns-clause-text c =
    let old = c.args.writer.now in
    let mid = c.write_byte_record.new.self in
    let new = c.flush.new.self in
    on_ok_weaker c.flush.result
    (λ empty. text_grows (writer_under old).items (writer_pending old) (writer_under mid).items (writer_pending mid) (writer_under new).items (writer_pending new) (writer_setup old) (fields_of c.args.fields.now)
    c.requires.pending empty c.requires.setup (c.in_ok-write_byte_record.ensures.bytes c.requires.fields c.requires.wrote (reads_no_number (writer_setup old) c.requires.setup)) c.flush.ensures.bytes)
    c.flush.ensures.pending
