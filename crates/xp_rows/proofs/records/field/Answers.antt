use Rattle.std.proofs.Common.{[], ap, ◌∙◌}
use Rattle.std.specs.Option.{unwrap_or}
use Rattle.csv.specs.Records.{fields_of}
use Rattle.xp_rows.proofs.Reading.{unwrap_or-field_at}
use Rattle.xp_rows.proofs.records.field.Goals as goal

pub returns-in-Some : goal.returns-in-Some
returns-in-Some c = ap (λ o. unwrap_or o []) c.in-Some.ensures.value ∙ unwrap_or-field_at (fields_of c.args.fields.now) c.args.place

pub returns-in-None : goal.returns-in-None
returns-in-None c = ap (λ o. unwrap_or o []) c.in-None.ensures.value ∙ unwrap_or-field_at (fields_of c.args.fields.now) c.args.place
