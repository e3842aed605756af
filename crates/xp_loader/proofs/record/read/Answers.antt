use Rattle.std.proofs.Common.{◌∙◌, sym, subst, Option}
use Rattle.csv.specs.Records.{fields_of}
use Rattle.xp_catalog.specs.declared.why.Why.{Why}
use Rattle.xp_loader.specs.Reading.{record_of}
use Rattle.xp_loader.specs.Refusing.{Reads, first_broken, form_rules, judged, row_rules, rules}
use Rattle.xp_loader.proofs.Judged.{judged_broken}
use Rattle.xp_loader.proofs.Said.{first_broken-none, first_broken-some, named-kept}
use Rattle.xp_loader.proofs.record.read.Goals as goal

pub returns-in-Some-broken_form : goal.returns-in-Some-broken_form
returns-in-Some-broken_form c = judged_broken (first_broken rules c.args.c.now c.args.line (fields_of c.args.row.now)) (record_of c.args.c.now c.args.line (fields_of c.args.row.now)) c.in-Some-broken_form.why (first_broken-some form_rules row_rules c.args.c.now c.args.line (fields_of c.args.row.now) c.in-Some-broken_form.why (sym (c.broken_form.ensures c.args.c.now c.args.line) ∙ c.in-Some-broken_form.is))

pub read_row-requires-clause-named : goal.read_row-requires-clause-named
read_row-requires-clause-named c = named-kept c.args.c.now c.args.line (fields_of c.args.row.now) c.in-Some.kind (rw c.field.ensures at (sym c.kind_of.ensures) ∙ c.in-Some.is) (sym (c.broken_form.ensures c.args.c.now c.args.line) ∙ c.in-None.is)

pub returns-in-None : goal.returns-in-None
returns-in-None c =
    let none = sym (c.broken_form.ensures c.args.c.now c.args.line) ∙ c.in-None.is in
    let P : Option Why → Type 0 = λ broken. Reads (judged broken (record_of c.args.c.now c.args.line (fields_of c.args.row.now))) c.read_row.result in
    subst P (sym (first_broken-none form_rules row_rules c.args.c.now c.args.line (fields_of c.args.row.now) none)) c.read_row.ensures
