use Rattle.std.proofs.Common.{◌∙◌}
use Rattle.std.proofs.lemmas.Str.{IsUtf8-from_ascii}
use Rattle.xp_catalog.proofs.names.new_name.Goals as goal

pub returns : goal.returns
returns c = c.from_string.ensures ∙ c.in_ok-from_utf8_lossy.ensures.ok (IsUtf8-from_ascii c.args.bytes.now c.requires)
