use Rattle.std.proofs.Common.{arith}
use Rattle.xp_text.proofs.Filled.{filled_size}
use Rattle.xp_text.proofs.padding.padding_size.Goals as goal

pub returns : goal.returns
returns c =
    let padding = c.args.padding.now in
    omega (arith, filled_size padding.fill.now padding.part.now padding.copies, c.saturating_add.ensures, c.saturating_mul.ensures)
