use Rattle.std.proofs.Common.{◌≡◌, ◌+◌, ◌++◌, ap, sym, ◌∙◌, add-one, append_assoc, rules, arith}
use Rattle.std.proofs.lemmas.Grind.{common_steps}
use Rattle.std.specs.String.{string_bytes}
use Rattle.xp_text.specs.Made.{repeated}
use Rattle.xp_text.proofs.Copies.{repeated_one_more}
use Rattle.xp_text.proofs.joining.put_copies.Goals as goal

pub loop-preserved : goal.loop-preserved
loop-preserved c = grind (arith, common_steps, repeated_one_more c.loop.counter c.args.a.now, c.loop.invariant)
