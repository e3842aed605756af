use Rattle.std.proofs.Common.{◌≡◌, ◌++◌, ◌+◌, ◌-◌, ap, sym, arith, length, ◌∙◌}
use Rattle.std.proofs.lemmas.Grind.{common_steps}
use Rattle.std.proofs.lemmas.List.{length-append}
use Rattle.std.specs.Str.{chars, encode_utf8_all}
use Rattle.xp_text.specs.Made.{repeated}
use Rattle.xp_text.specs.Parts.{rpad, padding}
use Rattle.xp_text.proofs.Filled.{rpad_bytes}
use Rattle.xp_text.proofs.padding.filled_behind.Goals as goal

pub returns-in_err-check_size : goal.returns-in_err-check_size
returns-in_err-check_size c =
    let cs = chars c.args.a.now in
    let fill = chars c.args.fill.now in
    let front = c.split_characters.result.0.now in
    let made = c.filled-padding.result in
    let pad = repeated made.copies made.fill.now ++ made.part.now in
    let missing = c.saturating_sub.ensures ∙ ap (λ k. c.args.count - k) c.length_text.ensures.value in
    let bytes : encode_utf8_all (rpad cs c.args.count fill) ≡ front ++ pad = rpad_bytes cs fill front pad c.args.count c.split_characters.ensures.bytes (ap (λ k. encode_utf8_all (padding fill k)) (sym missing) ∙ c.filled-padding.ensures) in
    let size : length (encode_utf8_all (rpad cs c.args.count fill)) ≡ length pad + length front = omega (arith, ap length bytes, length-append front pad) in
    grind (arith, common_steps)

pub returns : goal.returns
returns c =
    let cs = chars c.args.a.now in
    let fill = chars c.args.fill.now in
    let front = c.split_characters.result.0.now in
    let made = c.filled-padding.result in
    let pad = repeated made.copies made.fill.now ++ made.part.now in
    let missing = c.saturating_sub.ensures ∙ ap (λ k. c.args.count - k) c.length_text.ensures.value in
    let bytes : encode_utf8_all (rpad cs c.args.count fill) ≡ front ++ pad = rpad_bytes cs fill front pad c.args.count c.split_characters.ensures.bytes (ap (λ k. encode_utf8_all (padding fill k)) (sym missing) ∙ c.filled-padding.ensures) in
    let size : length (encode_utf8_all (rpad cs c.args.count fill)) ≡ length pad + length front = omega (arith, ap length bytes, length-append front pad) in
    grind (arith, common_steps)
