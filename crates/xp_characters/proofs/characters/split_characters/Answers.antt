use Rattle.std.proofs.Common.{◌-◌, ap, sym, ◌∙◌, length}
use Rattle.std.proofs.lemmas.Str.{encodes-chars, IsUtf8-take}
use Rattle.std.specs.Str.{chars, encode_utf8_all}
use Rattle.xp_characters.proofs.Encoded.{edge_before, front_characters}
use Rattle.xp_characters.proofs.characters.split_characters.Goals as goal

pub split_at-requires : goal.split_at-requires
split_at-requires c = edge_before _ _ c.behind-back.utf8 c.behind-back.ensures.end c.behind-back.ensures.shorter

pub returns-clause-front : goal.returns-clause-front
returns-clause-front c =
    let text = c.args.text.now in
    let back = c.behind-back.result.now in
    let edge = edge_before text back c.behind-back.utf8 c.behind-back.ensures.end c.behind-back.ensures.shorter in
    let front = IsUtf8-take text (length text - length back) c.utf8.text edge in
    ap chars c.split_at.ensures.front ∙ front_characters text _ back c.args.count front c.behind-back.ensures.end c.behind-back.ensures.value

pub returns-clause-bytes : goal.returns-clause-bytes
returns-clause-bytes c =
    let text = c.args.text.now in
    let back = c.behind-back.result.now in
    let edge = edge_before text back c.behind-back.utf8 c.behind-back.ensures.end c.behind-back.ensures.shorter in
    let front = IsUtf8-take text (length text - length back) c.utf8.text edge in
    c.split_at.ensures.front ∙ sym (encodes-chars _ front)
    ∙ ap encode_utf8_all (front_characters text _ back c.args.count front c.behind-back.ensures.end c.behind-back.ensures.value)
