use Rattle.std.proofs.Common.{◌≡◌, ◌<◌, ◌+◌, ◌++◌, ℕ, List, Ok, ap, sym, ◌∙◌, arith, length, rules}
use Rattle.std.proofs.lemmas.List.{length-append}
use Rattle.std.specs.Str.{chars, encode_utf8_all}
use Rattle.std.specs.String.{string_bytes}
use Rattle.xp_characters.proofs.Limits.{limited_small, refused}
use Rattle.xp_text.specs.Fields.{replace}
use Rattle.xp_text.proofs.Cut.{front_size, next_piece, replaced_in_two, replaced_nowhere}
use Rattle.xp_text.proofs.fields.replace.Goals as goal

pub returns-in_err-put : goal.returns-in_err-put
returns-in_err-put c =
    let old = chars c.args.old.now in
    let new = chars c.args.new.now in
    let whole = encode_utf8_all (replace (chars c.args.a.now) old new) in
    let out = string_bytes c.loop-field.text in
    let field = encode_utf8_all (chars c.in-Some.field.now) in
    let more = encode_utf8_all new ++ encode_utf8_all (replace (chars c.in-Some.behind.now) old new) in
    let all : out ++ (field ++ more) ≡ whole = ap (λ l. out ++ l) (sym (replaced_in_two (chars c.loop-field.rest.now) (chars c.in-Some.field.now) (chars c.in-Some.behind.now) old new c.in-Some.ensures.cases)) ∙ c.loop-field.invariant.value in
    refused whole c.from_residual.result c.in_err-put.field-0.0 c.from_residual.ensures.1 (λ m. ((c.in_err-put.ensures.large m).0, omega (arith, (c.in_err-put.ensures.large m).1, front_size whole out field more all)))

pub returns-in_err-put-2 : goal.returns-in_err-put-2
returns-in_err-put-2 c =
    let old = chars c.args.old.now in
    let new = chars c.args.new.now in
    let whole = encode_utf8_all (replace (chars c.args.a.now) old new) in
    let out = string_bytes c.loop-field.text in
    let field = encode_utf8_all (chars c.in-Some.field.now) in
    let rest = encode_utf8_all (replace (chars c.in-Some.behind.now) old new) in
    let all : out ++ (field ++ (encode_utf8_all new ++ rest)) ≡ whole = ap (λ l. out ++ l) (sym (replaced_in_two (chars c.loop-field.rest.now) (chars c.in-Some.field.now) (chars c.in-Some.behind.now) old new c.in-Some.ensures.cases)) ∙ c.loop-field.invariant.value in
    let then : string_bytes c.put.new.out ++ (encode_utf8_all new ++ rest) ≡ whole = next_piece whole out field (encode_utf8_all new ++ rest) (string_bytes c.put.new.out) all c.in_ok-put.ensures.ok in
    refused whole c.from_residual-in_err-put-2.result c.in_err-put-2.field-0.0 c.from_residual-in_err-put-2.ensures.1 (λ m. ((c.in_err-put-2.ensures.large m).0, omega (arith, (c.in_err-put-2.ensures.large m).1, front_size whole (string_bytes c.put.new.out) (encode_utf8_all new) rest then)))

pub loop-field-preserved : goal.loop-field-preserved
loop-field-preserved c =
    let old = chars c.args.old.now in
    let new = chars c.args.new.now in
    let whole = encode_utf8_all (replace (chars c.args.a.now) old new) in
    let out = string_bytes c.loop-field.text in
    let field = encode_utf8_all (chars c.in-Some.field.now) in
    let rest = encode_utf8_all (replace (chars c.in-Some.behind.now) old new) in
    let all : out ++ (field ++ (encode_utf8_all new ++ rest)) ≡ whole = ap (λ l. out ++ l) (sym (replaced_in_two (chars c.loop-field.rest.now) (chars c.in-Some.field.now) (chars c.in-Some.behind.now) old new c.in-Some.ensures.cases)) ∙ c.loop-field.invariant.value in
    let then : string_bytes c.put.new.out ++ (encode_utf8_all new ++ rest) ≡ whole = next_piece whole out field (encode_utf8_all new ++ rest) (string_bytes c.put.new.out) all c.in_ok-put.ensures.ok in
    record {
      utf8 = search rules;
      value = next_piece whole (string_bytes c.put.new.out) (encode_utf8_all new) rest (string_bytes c.put-in-Some.new.out) then c.in_ok-put-2.ensures.ok;
    }

pub returns-in_err-put-3 : goal.returns-in_err-put-3
returns-in_err-put-3 c =
    let old = chars c.args.old.now in
    let new = chars c.args.new.now in
    let whole = encode_utf8_all (replace (chars c.args.a.now) old new) in
    let out = string_bytes c.loop-field.text in
    let last : out ++ encode_utf8_all (chars c.loop-field.rest.now) ≡ whole = ap (λ l. out ++ l) (sym (replaced_nowhere (chars c.loop-field.rest.now) old new c.in_default.ensures.cases)) ∙ c.loop-field.invariant.value in
    refused whole c.from_residual-in_err-put-3.result c.in_err-put-3.field-0.0 c.from_residual-in_err-put-3.ensures.1 (λ m. ((c.in_err-put-3.ensures.large m).0, omega (arith, (c.in_err-put-3.ensures.large m).1, ap length last, length-append out (encode_utf8_all (chars c.loop-field.rest.now)))))

pub returns : goal.returns
returns c =
    let old = chars c.args.old.now in
    let new = chars c.args.new.now in
    let whole = encode_utf8_all (replace (chars c.args.a.now) old new) in
    let out = string_bytes c.loop-field.text in
    let last : out ++ encode_utf8_all (chars c.loop-field.rest.now) ≡ whole = ap (λ l. out ++ l) (sym (replaced_nowhere (chars c.loop-field.rest.now) old new c.in_default.ensures.cases)) ∙ c.loop-field.invariant.value in
    let done : string_bytes c.put-2.new.out ≡ whole = c.in_ok-put-3.ensures.ok ∙ last in
    limited_small whole (omega (arith, ap length done, c.in_ok-put-3.ensures.within)) ∙ ap Ok (sym done ∙ sym c.from_string.ensures)
