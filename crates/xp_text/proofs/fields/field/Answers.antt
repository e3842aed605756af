use Rattle.std.proofs.Common.{◌-◌, ◌∙◌, sym, arith}
use Rattle.std.proofs.lemmas.Str.{chars-nil}
use Rattle.std.specs.Str.{chars}
use Rattle.xp_text.specs.Fields.{fields}
use Rattle.xp_text.proofs.Cut.{past_one}
use Rattle.xp_text.proofs.fields.field.Goals as goal

pub returns-in_default : goal.returns-in_default
returns-in_default c =
    let rest = chars c.loop.rest.now in
    chars-nil ∙ sym (past_one (fields (chars c.args.delimiter.now) rest) rest (c.args.place - c.loop.counter) c.in_default.ensures.cases (omega arith)) ∙ c.loop.invariant.value
