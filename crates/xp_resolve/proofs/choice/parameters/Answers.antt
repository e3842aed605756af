use Rattle.std.proofs.Common.{inr, ◌∙◌, sym}
use Rattle.xp_resolve.proofs.Forms.{expanded_form}
use Rattle.xp_resolve.proofs.choice.parameters.Goals as goal

pub returns-then-extra-ne0-clause-form : goal.returns-then-extra-ne0-clause-form
returns-then-extra-ne0-clause-form c = λ candidate is.
    inr (expanded_form c.args.c.now c.args.count c.args.row.0 c.args.func.now candidate (sym c.in_ok-expansion.ensures.value ∙ is))
