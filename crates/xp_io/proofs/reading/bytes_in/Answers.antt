use Rattle.std.proofs.Common.{◌≡◌, Err, ap, sym, ◌∙◌}
use Rattle.xp_characters.specs.declared.fault.TextFault.TheVariants as text_fault
use Rattle.xp_bytea.specs.Texts.{bytes_in}
use Rattle.xp_io.specs.declared.reading.InFault.TheVariants as fault
use Rattle.xp_io.specs.Forms.{answered, bytes_value}
use Rattle.xp_io.proofs.Bytes.{bytes_short, one_error}
use Rattle.xp_io.proofs.reading.bytes_in.Goals as goal

pub returns-in-Ok-clause-short : goal.returns-in-Ok-clause-short
returns-in-Ok-clause-short c = bytes_short c.args.text.now c.in-Ok.bytes c.in-Ok.ensures

pub returns-in-Err-Raised-clause-value : goal.returns-in-Err-Raised-clause-value
returns-in-Err-Raised-clause-value c =
    let said : bytes_in c.args.text.now ≡ Err (text_fault.Raised c.in-Err-Raised.error) = rw c.in-Err-Raised.field-0-is at c.in-Err-Raised.ensures in
    ap (λ r. answered (bytes_value r)) said ∙ ap (λ e. Err (fault.Bad e)) (sym (one_error c.args.text.now c.in-Err-Raised.error said))
