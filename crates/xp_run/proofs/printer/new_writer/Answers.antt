use Rattle.std.proofs.Common.{◌∙◌, ap, true}
use Rattle.csv.specs.Writing.{with_flexible}
use Rattle.xp_run.proofs.printer.new_writer.Goals as goal

pub returns-clause-idle : goal.returns-clause-idle
returns-clause-idle c = record {
  setup = c.from_writer.ensures.cfg ∙ c.flexible.ensures ∙ ap (λ b. with_flexible b true) c.new.ensures;
  fields = c.from_writer.ensures.fields;
  wrote = c.from_writer.ensures.wrote;
  pending = c.from_writer.ensures.empty;
}
