use Rattle.std.proofs.Common.{w32, to_z, of_z, to_z-of_z, ap, ◌∙◌}
use Rattle.xp_date.specs.Fields.{extracted}
use Rattle.xp_call.proofs.Extracted.{number_of_field}
use Rattle.xp_call.proofs.dates.field_of.Goals as goal

pub returns : goal.returns
returns c =
    let day = to_z w32 (of_z w32 c.args.day) in
    number_of_field c.extract.result (extracted c.args.field.now c.args.day) (c.extract.ensures.value ∙ ap (λ f. extracted f day) c.as_bytes.ensures.value ∙ ap (extracted c.args.field.now) (to_z-of_z c.ranges.day)) c.extract.ensures.scale
