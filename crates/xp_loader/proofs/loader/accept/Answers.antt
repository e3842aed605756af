use Rattle.std.proofs.Common.{◌-◌, ◌∙◌, Ok, ap, arith, sym}
use Rattle.csv.specs.Records.{fields_of}
use Rattle.xp_loader.specs.Reading.{record_of}
use Rattle.xp_loader.specs.Refusing.{first_broken, rules}
use Rattle.xp_loader.proofs.Judged.{accepted_broken, accepted_said, said_by}
use Rattle.xp_loader.proofs.KnownNames.{built-first}
use Rattle.xp_loader.proofs.Loaded.{IsLoaded-added}
use Rattle.xp_loader.proofs.Said.{IsKept-read}
use Rattle.xp_loader.proofs.loader.accept.Goals as goal

pub returns-in-Ok-clause-answer : goal.returns-in-Ok-clause-answer
returns-in-Ok-clause-answer c =
    accepted_said c.args.c c.args.line (fields_of c.args.row.now) c.in-Ok.record c.if-line-gt-RECORD_LIMIT.false c.in-Ok.ensures ∙ ap Ok (sym c.in_ok-add-in-Ok.ensures)

pub returns-in-Err-Broken-clause-answer : goal.returns-in-Err-Broken-clause-answer
returns-in-Err-Broken-clause-answer c =
    let read = rw c.in-Err-Broken.field-0-is at c.in-Err-Broken.ensures in
    accepted_broken c.args.c c.args.line (fields_of c.args.row.now) c.in-Err-Broken.why c.if-line-gt-RECORD_LIMIT.false read

pub add-requires-clause-keeps : goal.add-requires-clause-keeps
add-requires-clause-keeps c =
    let read = said_by (first_broken rules c.args.c c.args.line (fields_of c.args.row.now)) (record_of c.args.c c.args.line (fields_of c.args.row.now)) c.in-Ok.record c.in-Ok.ensures in
    (IsKept-read c.args.c (built-first (c.args.line - 1) c.args.c c.requires.loaded.built) c.args.line (fields_of c.args.row.now) c.in-Ok.record read.0 read.1).0

pub returns-in-Ok-clause-loaded : goal.returns-in-Ok-clause-loaded
returns-in-Ok-clause-loaded c =
    let read = said_by (first_broken rules c.args.c c.args.line (fields_of c.args.row.now)) (record_of c.args.c c.args.line (fields_of c.args.row.now)) c.in-Ok.record c.in-Ok.ensures in
    let kept = IsKept-read c.args.c (built-first (c.args.line - 1) c.args.c c.requires.loaded.built) c.args.line (fields_of c.args.row.now) c.in-Ok.record read.0 read.1 in
    IsLoaded-added (c.args.line - 1) c.args.line c.args.c c.in_ok-add-in-Ok.field-0 c.in-Ok.record c.requires.loaded kept (omega arith) c.in_ok-add-in-Ok.ensures
