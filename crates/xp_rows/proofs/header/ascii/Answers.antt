use Rattle.std.proofs.Common.{◌∙◌, sym}
use Rattle.xp_rows.proofs.Ascii.{IsUtf8-from_test}
use Rattle.xp_rows.proofs.header.ascii.Goals as goal

pub returns-in-Err : goal.returns-in-Err
returns-in-Err c = absurd (c.in-Err.ensures.cases.0 (IsUtf8-from_test c.args.bytes.now (sym c.is_ascii.ensures ∙ c.if-not-is_ascii.false)))
