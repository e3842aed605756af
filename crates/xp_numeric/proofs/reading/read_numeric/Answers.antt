use Rattle.std.proofs.Common.{◌≡◌, ◌++◌, length, pos, ap, ◌∙◌}
use Rattle.std.specs.Prelude.{◌-ℤ◌}
use Rattle.std.specs.List.{before_first, after_first}
use Rattle.std.specs.Str.Parse.{starts_with_minus}
use Rattle.xp_numeric.specs.Numbers.{signed}
use Rattle.xp_numeric.specs.Texts.{is_point, decimals, mantissa, unsigned, with_point}
use Rattle.xp_numeric.specs.inner.Reading.{number_from}
use Rattle.xp_numeric.proofs.Numerals.{exponent_none, digits_none, number_of, no_number}
use Rattle.xp_numeric.proofs.reading.read_numeric.Goals as goal

pub returns-in_default : goal.returns-in_default
returns-in_default c =
    let neg = c.sign-neg.result.0 in
    let z = c.sign-neg.result.1.now in
    let h = c.in_default.ensures in
    no_number z neg (exponent_none z h.value)
    ∙ ap (λ n. unsigned n z) c.sign-neg.ensures.minus ∙ ap (unsigned (starts_with_minus c.args.text.now)) c.sign-neg.ensures.rest

pub returns-in-Some-size : goal.returns-in-Some-size
returns-in-Some-size c =
    let neg = c.sign-neg.result.0 in
    let z = c.sign-neg.result.1.now in
    let x = c.in-Some.exponent in
    let h = c.in-Some.ensures in
    let k = c.in-Some-size.ensures in
    let before : c.at_point.result.0.now ≡ before_first is_point (mantissa z) = c.at_point.ensures.before ∙ ap (before_first is_point) h.value.0 in
    let after : c.at_point.result.1.now ≡ decimals z = c.at_point.ensures.after ∙ ap (after_first is_point) h.value.0 in
    number_of z x c.in-Some-size.size neg c.placed.result h.value.1
    (k.value ∙ ap (λ w. number_from (w ++ c.at_point.result.1.now)) before ∙ ap (λ w. number_from (before_first is_point (mantissa z) ++ w)) after)
    (λ n e f g. c.placed.ensures n e f g ∙ ap (λ w. with_point neg n (pos (length w) -ℤ signed x.is_down e)) after)
    ∙ ap (λ n. unsigned n z) c.sign-neg.ensures.minus ∙ ap (unsigned (starts_with_minus c.args.text.now)) c.sign-neg.ensures.rest

pub returns-in-None : goal.returns-in-None
returns-in-None c =
    let neg = c.sign-neg.result.0 in
    let z = c.sign-neg.result.1.now in
    let h = c.in-Some.ensures in
    let k = c.in-None.ensures in
    let before : c.at_point.result.0.now ≡ before_first is_point (mantissa z) = c.at_point.ensures.before ∙ ap (before_first is_point) h.value.0 in
    let after : c.at_point.result.1.now ≡ decimals z = c.at_point.ensures.after ∙ ap (after_first is_point) h.value.0 in
    no_number z neg (digits_none z (k.value ∙ ap (λ w. number_from (w ++ c.at_point.result.1.now)) before ∙ ap (λ w. number_from (before_first is_point (mantissa z) ++ w)) after))
    ∙ ap (λ n. unsigned n z) c.sign-neg.ensures.minus ∙ ap (unsigned (starts_with_minus c.args.text.now)) c.sign-neg.ensures.rest
