use Rattle.std.proofs.Common.{◌≡◌, Option, ◌∙◌, sym, subst}
use Rattle.std.specs.Prelude.{IfOk}
use Rattle.csv.specs.Records.{fields_of}
use Rattle.xp_catalog.specs.declared.record.Record.{Record}
use Rattle.xp_loader.specs.Reading.{left_of, operator_row, type_of}
use Rattle.xp_loader.specs.Records.{field}
use Rattle.xp_loader.proofs.Found.{with_both-some}
use Rattle.xp_loader.proofs.reading.read_operator.Goals as goal

pub returns-in-Some : goal.returns-in-Some
returns-in-Some c =
    let left = (rw c.field.ensures at (sym c.left_of.ensures)) ∙ c.in-Some.is in
    let right = rw c.field-in-Some.ensures at c.type_of.ensures in
    let P : Option Record → Type 0 = λ said. IfOk c.operator_over.result (λ o. o ≡ said) in
    subst P (with_both-some (left_of c.args.c.now (field (fields_of c.args.row.now) 2)) c.in-Some.left (type_of c.args.c.now (field (fields_of c.args.row.now) 3)) (operator_row c.args.c.now c.args.line (fields_of c.args.row.now)) left)
    (rw right at c.operator_over.ensures)
