use Rattle.std.proofs.Common.{◌≡◌, false}
use Rattle.xp_value.specs.Null.{is_null}
use Rattle.xp_meaning.specs.Nodes.{characters}
use Rattle.xp_eval.proofs.Reading.{read_err}
use Rattle.xp_eval.proofs.texts.input.Goals as goal

pub returns-in-Err-Bad : goal.returns-in-Err-Bad
returns-in-Err-Bad c =
    let some : is_null c.args.value.now ≡ false = cc in
    let text : c.as_bytes.result.now ≡ characters c.args.value.now = cc in
    let said = rw c.in-Err-Bad.field-0-is at c.in-Err-Bad.ensures.value in
    read_err c.args.ty c.args.value.now c.in-Err-Bad.error c.as_bytes.result.now some text said
