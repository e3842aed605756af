use Rattle.std.proofs.Common.{◌<◌, ◌++◌, ◌∙◌, length, length-append, arith}
use Rattle.xp_numeric.proofs.Numerals.{digits_more, digits_stop, number_some}
use Rattle.xp_numeric.proofs.reading.size.Goals as goal

pub returns-clause-value : goal.returns-clause-value
returns-clause-value c =
    let w = c.args.whole.now in
    let d = c.args.decimals.now in
    let h : 0 < length (w ++ d) = omega (arith, length-append w d) in
    c.digits-2.ensures.value ∙ digits_more 0 c.in_ok-value.value w d c.in_ok-value.ensures.value ∙ number_some (w ++ d) h

pub returns-in_err-value-clause-value : goal.returns-in_err-value-clause-value
returns-in_err-value-clause-value c =
    let w = c.args.whole.now in
    let d = c.args.decimals.now in
    let h : 0 < length (w ++ d) = omega (arith, length-append w d) in
    c.from_residual.ensures ∙ digits_stop 0 w d c.in_err-value.ensures.value ∙ number_some (w ++ d) h
